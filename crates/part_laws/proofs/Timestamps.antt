-- The timestamps of an accepted snapshot are numbers of 64 bits.
use Rattle.std.specs.Prelude.{◌≡◌, ℕ, ◌==◌, ℤ, true, false, cond, List, [], ◌∷◌, Option, Some, None, IfSome, refl}
use Rattle.std.specs.Option.{option_or}
use Rattle.std.specs.List.{flat_map, AllByRecursion}
use Rattle.std.proofs.Common.{sym, ap, ◌∙◌, subst, arith}
use borrow.Author.Tests.{eqb-true, le-leb}
use Rattle.rt_wire.specs.Fields.{WireValue, Varint, Fixed64, Len, Group, Fixed32, WireField, Joins, Spells}
use Rattle.rt_wire.specs.Writing.{FitsWidth}
use Rattle.rt_wire.proofs.Writes.{writing_is_exact}
use Rattle.feed_values.specs.declared.slot.Slot.TheVariants.{S29, S59}
use Rattle.feed_values.specs.declared.cell_value.CellValue.TheVariants as value
use Rattle.feed_values.specs.Schema as schema
use Rattle.feed_values.specs.Schema.{Schema, Value}
use Rattle.feed_values.specs.Messages.{feed_message, feed_header, entity, trip_update, vehicle_position}
use Rattle.feed_values.specs.Meaning.{fields, scalar_in, payload_in, in_slot, option_case, given, last_of, joined, slots_of, meaning}
use Rattle.feed_values.specs.Accepted.{IsWhole, IsMessage, IsAccepted, header_fields}
use Rattle.feed_values.specs.Cells.{entity_cell, number_cell}
use Rattle.feed_values.specs.Snapshot.{header_of, timestamp_of, entity_of, entity_payloads}
use Rattle.feed_values.proofs.SnapshotFields.{fields_are, snapshot_is_its_fields}
use Rattle.rule_table.specs.Asked.{in_range}
use Rattle.rule_table.specs.Groups.{Each}
use Rattle.rule_table.specs.GroupLaws.{each_append}

-- ---- numbers of fields
abbrev Fits : List WireField → Type 0
Fits l = Each (λ r. FitsWidth r.value) l

joined_fit : (l : List WireField) (b : List ℕ) → Joins (Spells 100) l b → Fits l
joined_fit [] b j = tt
joined_fit (r ∷ l) b j = ((writing_is_exact.can r j.0 j.3).1, joined_fit l j.1 j.4)

message_fits : (s : Schema) (p : List ℕ) → IsMessage s p → Fits (fields p)
message_fits s p m = subst Fits (sym (fields_are m.0 p m.1)) (joined_fit m.0 p m.1)

-- a number that a field gives a slot of 64 bits
number_fits : (v : WireValue) → FitsWidth v → in_range (number_cell (scalar_in schema.U64 v)) ≡ true
number_fits (Varint n) h = le-leb n 18446744073709551615 (omega (arith, h))
number_fits (Fixed64 n) h = refl
number_fits (Len p) h = refl
number_fits (Group p) h = refl
number_fits (Fixed32 n) h = refl

-- the last one
last_fits : (n : ℕ) (l : List WireField) → Fits l → in_range (number_cell (last_of (given (in_slot (scalar_in schema.U64) n) l))) ≡ true
last_fits n [] h = refl
last_fits n (r ∷ l) h = one (in_slot (scalar_in schema.U64) n r) slot (given (in_slot (scalar_in schema.U64) n) l) (last_fits n l h.1)
  where
    slot : in_range (number_cell (in_slot (scalar_in schema.U64) n r)) ≡ true
    slot = elim (r.number == n) as (λ b. in_range (number_cell (cond b (scalar_in schema.U64 r.value) None)) ≡ true) [ true ↦ number_fits r.value h.0 | false ↦ refl ]

    later : (o : Option ℤ) (z : ℤ) → in_range (number_cell o) ≡ true → in_range (value.Number z) ≡ true → in_range (number_cell (option_or o (Some z))) ≡ true
    later None z k m = m
    later (Some y) z k m = k

    one : (o : Option ℤ) → in_range (number_cell o) ≡ true → (rest : List ℤ) → in_range (number_cell (last_of rest)) ≡ true → in_range (number_cell (last_of (option_case o rest (λ x. x ∷ rest)))) ≡ true
    one None k rest m = m
    one (Some z) k rest m = later (last_of rest) z m k

-- ---- messages in slots
in_slot_whole : (s m : Schema) (n : ℕ) → ((v : WireValue) → IsWhole s (record { number = n; value = v }) → IfSome (payload_in v) (IsMessage m)) → (r : WireField) → IsWhole s r → IfSome (in_slot payload_in n r) (IsMessage m)
in_slot_whole s m n there r w =
    elim (r.number == n) as (λ b. (r.number == n) ≡ b → IfSome (cond b (payload_in r.value) None) (IsMessage m)) [
      | true ↦ λ e. there r.value (subst (λ k. IsWhole s (record { number = k; value = r.value })) (eqb-true r.number n e) w)
      | false ↦ λ _. tt
    ] refl

messages_given : (s m : Schema) (n : ℕ) → ((v : WireValue) → IsWhole s (record { number = n; value = v }) → IfSome (payload_in v) (IsMessage m)) → (l : List WireField) → AllByRecursion (IsWhole s) l → Each (IsMessage m) (given (in_slot payload_in n) l)
messages_given s m n there [] w = tt
messages_given s m n there (r ∷ l) w = one (in_slot payload_in n r) (given (in_slot payload_in n) l) (in_slot_whole s m n there r w.0) (messages_given s m n there l w.1)
  where
    one : (o : Option (List ℕ)) (rest : List (List ℕ)) → IfSome o (IsMessage m) → Each (IsMessage m) rest → Each (IsMessage m) (option_case o rest (λ p. p ∷ rest))
    one None rest h k = k
    one (Some p) rest h k = (h, k)

messages_in : (s m : Schema) (n : ℕ) → ((v : WireValue) → IsWhole s (record { number = n; value = v }) → IfSome (payload_in v) (IsMessage m)) → (p : List ℕ) → IsMessage s p → Each (IsMessage m) (given (in_slot payload_in n) (fields p))
messages_in s m n there p is = subst (λ l. Each (IsMessage m) (given (in_slot payload_in n) l)) (sym (fields_are is.0 p is.1)) (messages_given s m n there is.0 is.2)

joined_fields : (m : Schema) (ps : List (List ℕ)) → Each (IsMessage m) ps → Fits (flat_map fields ps)
joined_fields m [] h = tt
joined_fields m (p ∷ ps) h = each_append (λ r. FitsWidth r.value) (fields p) (flat_map fields ps) (message_fits m p h.0) (joined_fields m ps h.1)

-- ---- the header
header_last : (l : List WireField) → Fits l → in_range (number_cell (timestamp_of (meaning feed_header l))) ≡ true
unfolding meaning
header_last l h = last_fits 3 l h

pub header_range : (bytes : List ℕ) → IsAccepted bytes → in_range (number_cell (timestamp_of (header_of bytes))) ≡ true
header_range bytes a =
    ap (λ v. in_range (number_cell (timestamp_of v))) (snapshot_is_its_fields.header a.whole.0 bytes a.whole.1)
    ∙ header_last (header_fields a.whole.0) (joined_fields feed_header (given (in_slot payload_in 1) a.whole.0) (messages_given feed_message feed_header 1 (λ v w. w) a.whole.0 a.whole.2))

-- ---- an entity
update_last : (ps : List (List ℕ)) → Fits (flat_map fields ps) → in_range (option_case (joined (slots_of trip_update trip_update) ps) value.Missing (λ w. number_cell w.1.1.1.0)) ≡ true
update_last [] h = refl
update_last (p ∷ ps) h = last_fits 4 (flat_map fields (p ∷ ps)) h

vehicle_last : (ps : List (List ℕ)) → Fits (flat_map fields ps) → in_range (option_case (joined (slots_of vehicle_position vehicle_position) ps) value.Missing (λ w. number_cell w.1.1.1.1.0)) ≡ true
vehicle_last [] h = refl
vehicle_last (p ∷ ps) h = last_fits 5 (flat_map fields (p ∷ ps)) h

pub update_range : (p : List ℕ) → IsMessage entity p → in_range (entity_cell (entity_of p) S29 0) ≡ true
unfolding meaning
update_range p m = update_last (given (in_slot payload_in 3) (fields p)) (joined_fields trip_update (given (in_slot payload_in 3) (fields p)) (messages_in entity trip_update 3 (λ v w. w) p m))

pub vehicle_range : (p : List ℕ) → IsMessage entity p → in_range (entity_cell (entity_of p) S59 0) ≡ true
unfolding meaning
vehicle_range p m = vehicle_last (given (in_slot payload_in 4) (fields p)) (joined_fields vehicle_position (given (in_slot payload_in 4) (fields p)) (messages_in entity vehicle_position 4 (λ v w. w) p m))

-- the byte strings of entities are entities
pub entities_whole : (bytes : List ℕ) → IsAccepted bytes → Each (IsMessage entity) (entity_payloads bytes)
entities_whole bytes a = messages_in feed_message entity 2 (λ v w. w) bytes a.whole
