-- The fields of joined bytes are those of the parts.
use Rattle.std.proofs.Common.{◌≡◌, ℕ, List, [], ◌∷◌, ◌++◌, length, map, Some, Result, Ok, Err, refl, sym, ap, ◌∙◌}
use Rattle.std.specs.List.{flat_map, AllByRecursion, concat}
use Prim.Native.String.{String}
use Rattle.rt_wire.specs.declared.fault.WireFault.{WireFault}
use Rattle.rt_wire.specs.Fields.{WireField, Joins, Spells}
use Rattle.rt_wire.specs.Placed.{PlacedField, placed_fields, placed_fields_from, moved}
use Rattle.rt_wire.proofs.Whole.{spelled_is_read, join_is_read}
use Rattle.feed_values.specs.Schema as schema
use Rattle.feed_values.specs.Schema.{Schema, Presence, Value, held, blank}
use Rattle.feed_values.specs.Meaning.{fields, whole_fields, given, in_slot, payload_in, joined, slots_of, meaning}
use Rattle.feed_values.specs.Joined.{IsFieldList, meaning_of_join, JoinMeansAll}
use Rattle.feed_values.proofs.SnapshotFields.{fields_are}

whole_append : (ps : List PlacedField) (tail : List (Result PlacedField WireFault)) → whole_fields (map (λ p. Ok p) ps ++ tail) ≡ map (λ p. p.field) ps ++ whole_fields tail
whole_append [] tail = refl
whole_append (p ∷ ps) tail = ap (λ (l : List WireField). p.field ∷ l) (whole_append ps tail)

whole_moved : (n : ℕ) (parts : List (Result PlacedField WireFault)) → whole_fields (map (moved n) parts) ≡ whole_fields parts
whole_moved n [] = refl
whole_moved n (Ok p ∷ parts) = ap (λ (l : List WireField). p.field ∷ l) (whole_moved n parts)
whole_moved n (Err f ∷ parts) = refl

fields_nothing : fields [] ≡ []
unfolding fields placed_fields placed_fields_from
fields_nothing = refl

pub fields_append : (l : List WireField) (front rest : List ℕ) → Joins (Spells 100) l front → fields (front ++ rest) ≡ l ++ fields rest
unfolding fields
fields_append l front rest j =
    let h = spelled_is_read l front j in
    ap whole_fields (join_is_read l front rest j ∙ ap (λ (t : List (Result PlacedField WireFault)). t ++ map (moved (length front)) (placed_fields rest)) h.all)
    ∙ whole_append h.places (map (moved (length front)) (placed_fields rest))
    ∙ ap (λ (t : List WireField). t ++ whole_fields (map (moved (length front)) (placed_fields rest))) h.fields
    ∙ ap (λ (t : List WireField). l ++ t) (whole_moved (length front) (placed_fields rest))

pub fields_joined : (ps : List (List ℕ)) → AllByRecursion IsFieldList ps → fields (concat ps) ≡ flat_map fields ps
fields_joined [] h = fields_nothing
fields_joined (p ∷ ps) h =
    fields_append h.0.0 p (concat ps) h.0.1 ∙ ap (λ (t : List WireField). t ++ fields (concat ps)) (sym (fields_are h.0.0 p h.0.1))
    ∙ ap (λ (t : List WireField). fields p ++ t) (fields_joined ps h.1)

joined_means : (m : Schema) (ps : List (List ℕ)) → AllByRecursion IsFieldList ps → joined (slots_of m m) ps ≡ meaning_of_join m ps
unfolding meaning
joined_means m [] h = refl
joined_means m (p ∷ ps) h = ap (λ (l : List WireField). Some (slots_of m m l)) (sym (fields_joined (p ∷ ps) h))

slot_means : (whole : Schema) (n : ℕ) (name : String) (presence : Presence) (m rest : Schema) (l : List WireField) → AllByRecursion IsFieldList (given (in_slot payload_in n) l)
    → (slots_of whole (schema.message n name presence m rest) l).0 ≡ held presence (blank m) (meaning_of_join m (given (in_slot payload_in n) l))
slot_means whole n name presence m rest l h = ap (held presence (blank m)) (joined_means m (given (in_slot payload_in n) l) h)

pub join_means_all : JoinMeansAll
join_means_all = record { both = fields_append; all = fields_joined; slot = slot_means }
