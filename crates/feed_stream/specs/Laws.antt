-- Where the entities of a snapshot stand, in words of its fields.
-- (Protocol Buffers, Encoding, "Message Structure"; GTFS Realtime Reference 2.0, "FeedMessage".)
use Rattle.std.specs.Prelude.{◌≡◌, ℕ, ◌+◌, ◌-◌, List, ◌++◌, length, Some, slice_get}
use Rattle.rt_wire.specs.Fields.{WireField, Len, Joins, Spells}
use Rattle.feed_values.specs.Meaning.{given, in_slot, payload_in}
use Rattle.feed_values.specs.Snapshot.{entity_payloads}
use Rattle.feed_stream.specs.Payloads.{entity_bases}

-- an entity's field
abbrev pub entity_field : List ℕ → WireField
entity_field payload = record { number = 2; value = Len payload }

-- how many of these fields are entities
abbrev pub entities_in : List WireField → ℕ
entities_in l = length (given (in_slot payload_in 2) l)

-- The bytes are a front, which is whole fields, then an entity's field, and more. The entity's place among all is the number of
-- entities in the front, and its payload begins behind the front, the field's tag and its length.
pub record EntitiesFollowFields : Type 0 where
  pub payload : (l : List WireField) (front payload spelled more : List ℕ) → Joins (Spells 100) l front → Spells 100 (entity_field payload) spelled
      → slice_get (entity_payloads (front ++ (spelled ++ more))) (entities_in l) ≡ Some payload
  pub base : (l : List WireField) (front payload spelled more : List ℕ) → Joins (Spells 100) l front → Spells 100 (entity_field payload) spelled
      → slice_get (entity_bases (front ++ (spelled ++ more))) (entities_in l) ≡ Some (length front + (length spelled - length payload))
