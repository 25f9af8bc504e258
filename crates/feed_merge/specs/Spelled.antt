-- How entities stand in the canonical bytes of a snapshot. (Protocol Buffers, Encoding, "Message Structure".)
use Rattle.std.specs.Prelude.{ℕ, List}
use Rattle.std.specs.List.{flat_map}
use Rattle.rt_wire.specs.Fields.{Len}
use Rattle.feed_values.specs.Schema.{Value}
use Rattle.feed_values.specs.Messages.{entity}
use Rattle.feed_values.specs.Canonical.{canonical, spelled_slot}

-- an entity, as a field of the snapshot
abbrev pub entity_spelled : Value entity → List ℕ
entity_spelled e = spelled_slot 2 (Len (canonical entity e))

-- entities, one behind the other
abbrev pub entities_spelled : List (Value entity) → List ℕ
entities_spelled es = flat_map entity_spelled es
