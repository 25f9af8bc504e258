-- Entities by the fields that stand before them.
use Rattle.std.proofs.Common.{◌≡◌, ◌+◌, ◌-◌, ℕ, List, [], ◌∷◌, ◌++◌, append-nil, map, length, Option, Some, None, Result, Ok, refl, sym, ap, ◌∙◌, arith}
use Rattle.std.proofs.lemmas.List.{length-map}
use Rattle.std.proofs.lemmas.Option.{slice_get-map}
use Rattle.std.specs.Prelude.{slice_get}
use Rattle.std.specs.Option.{option_map}
use Rattle.rt_wire.specs.declared.fault.WireFault.{WireFault}
use Rattle.rt_wire.specs.Fields.{WireField, Joins, Spells}
use Rattle.rt_wire.specs.Placed.{PlacedField, moved, placed_fields, spelled_at}
use Rattle.rt_wire.proofs.Whole.{join_is_read, spelled_is_read}
use Rattle.feed_values.specs.Meaning.{fields, given, in_slot, option_case, payload_in, whole_fields}
use Rattle.feed_values.specs.Snapshot.{entity_payloads}
use Rattle.feed_stream.specs.Laws.{EntitiesFollowFields, entities_in, entity_field}
use Rattle.feed_stream.specs.Payloads.{Payload, entity_bases, payload_of, payloads_in}
use Rattle.feed_codec.proofs.Firsts.{one_place}
use Rattle.feed_stream.proofs.Payloads.{payloads_given}

found_before : (o : Option Payload) (ps qs all : List Payload) → all ≡ ps ++ qs → option_case o all (λ p. p ∷ all) ≡ option_case o ps (λ p. p ∷ ps) ++ qs
found_before None ps qs all e = e
found_before (Some p) ps qs all e = ap (λ (l : List Payload). p ∷ l) e

-- the payloads of whole fields, and then of what stands behind them
pub payloads_behind : (n : ℕ) (places : List PlacedField) (tail : List (Result PlacedField WireFault)) → payloads_in n (map (λ p. Ok p) places ++ tail) ≡ payloads_in n (map (λ p. Ok p) places) ++ payloads_in n tail
payloads_behind n [] tail = refl
payloads_behind n (p ∷ places) tail =
    found_before (payload_of n p) (payloads_in n (map (λ p. Ok p) places)) (payloads_in n tail) (payloads_in n (map (λ p. Ok p) places ++ tail)) (payloads_behind n places tail)

whole_places : (places : List PlacedField) → whole_fields (map (λ p. Ok p) places) ≡ map (λ p. p.field) places
whole_places [] = refl
whole_places (p ∷ places) = ap (λ (l : List WireField). p.field ∷ l) (whole_places places)

payloads_many : (places : List PlacedField) (l : List WireField) → map (λ p. p.field) places ≡ l → length (payloads_in 2 (map (λ p. Ok p) places)) ≡ entities_in l
payloads_many places l e =
    sym (length-map (payloads_in 2 (map (λ p. Ok p) places)) (λ (p : Payload). p.bytes))
    ∙ ap (λ (ps : List (List ℕ)). length ps) (payloads_given 2 (map (λ p. Ok p) places))
    ∙ ap (λ m. length (given (in_slot payload_in 2) m)) (whole_places places ∙ e)

next_at : {A : Type 0} (xs : List A) (y : A) (zs : List A) → slice_get (xs ++ y ∷ zs) (length xs) ≡ Some y
next_at [] y zs = refl
next_at (x ∷ xs) y zs = next_at xs y zs

record Found (l : List WireField) (front payload spelled more : List ℕ) : Type 0 where
  before : List Payload
  after : List Payload
  many : length before ≡ entities_in l
  all : payloads_in 2 (placed_fields (front ++ (spelled ++ more)))
      ≡ before ++ record { base = length front + (0 + (length spelled - length payload)); bytes = payload } ∷ after

found : (l : List WireField) (front payload spelled more : List ℕ) → Joins (Spells 100) l front → Spells 100 (entity_field payload) spelled → Found l front payload spelled more
found l front payload spelled more joins s =
    let f = entity_field payload in
    let h = spelled_is_read l front joins in
    let tail = map (moved (length spelled)) (placed_fields more) in
    let here : placed_fields (spelled ++ more) ≡ Ok (spelled_at 0 f spelled) ∷ tail =
    join_is_read (f ∷ []) spelled more (spelled, [], sym (append-nil spelled), s, refl) ∙ ap (λ (t : List (Result PlacedField WireFault)). t ++ tail) (one_place f spelled s) in
    let there : placed_fields (front ++ (spelled ++ more)) ≡ map (λ p. Ok p) h.places ++ map (moved (length front)) (Ok (spelled_at 0 f spelled) ∷ tail) =
    join_is_read l front (spelled ++ more) joins
    ∙ ap (λ (t : List (Result PlacedField WireFault)). t ++ map (moved (length front)) (placed_fields (spelled ++ more))) h.all
    ∙ ap (λ (t : List (Result PlacedField WireFault)). map (λ p. Ok p) h.places ++ map (moved (length front)) t) here in
    record {
      before = payloads_in 2 (map (λ p. Ok p) h.places);
      after = payloads_in 2 (map (moved (length front)) tail);
      many = payloads_many h.places l h.fields;
      all = ap (payloads_in 2) there ∙ payloads_behind 2 h.places (map (moved (length front)) (Ok (spelled_at 0 f spelled) ∷ tail));
    }

part_at : {A : Type 0} (view : Payload → A) (before after : List Payload) (p : Payload) (all : List Payload) (n : ℕ) → all ≡ before ++ p ∷ after → length before ≡ n → slice_get (map view all) n ≡ Some (view p)
part_at view before after p all n e many =
    ap (λ (ps : List Payload). slice_get (map view ps) n) e ∙ slice_get-map view (before ++ p ∷ after) n
    ∙ ap (λ k. option_map view (slice_get (before ++ p ∷ after) k)) (sym many) ∙ ap (option_map view) (next_at before p after)

payload_found : (l : List WireField) (front payload spelled more : List ℕ) → Joins (Spells 100) l front → Spells 100 (entity_field payload) spelled
    → slice_get (entity_payloads (front ++ (spelled ++ more))) (entities_in l) ≡ Some payload
unfolding fields
payload_found l front payload spelled more joins s =
    let h = found l front payload spelled more joins s in
    ap (λ (ps : List (List ℕ)). slice_get ps (entities_in l)) (sym (payloads_given 2 (placed_fields (front ++ (spelled ++ more)))))
    ∙ part_at (λ p. p.bytes) h.before h.after _ (payloads_in 2 (placed_fields (front ++ (spelled ++ more)))) (entities_in l) h.all h.many

base_found : (l : List WireField) (front payload spelled more : List ℕ) → Joins (Spells 100) l front → Spells 100 (entity_field payload) spelled
    → slice_get (entity_bases (front ++ (spelled ++ more))) (entities_in l) ≡ Some (length front + (length spelled - length payload))
base_found l front payload spelled more joins s =
    let h = found l front payload spelled more joins s in
    let place : length front + (0 + (length spelled - length payload)) ≡ length front + (length spelled - length payload) = omega arith in
    part_at (λ p. p.base) h.before h.after _ (payloads_in 2 (placed_fields (front ++ (spelled ++ more)))) (entities_in l) h.all h.many ∙ ap (λ (n : ℕ). Some n) place

pub entities_follow_fields : EntitiesFollowFields
entities_follow_fields = record { payload = payload_found; base = base_found }
