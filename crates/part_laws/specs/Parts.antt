-- What is found at an entity after a history, by its parts: by itself and with the timetable, with pairing rows, by bounds, and by peaks. Each is what some
-- group of rules finds, which is handed in as a function of what its trait lets it see.
use Rattle.std.specs.Prelude.{◌≡◌, ℕ, ℤ, List, Option, Some, option_map, option_and_then}
use Rattle.feed_values.specs.Schema.{Value}
use Rattle.feed_values.specs.Messages.{entity}
use Rattle.feed_values.specs.Snapshot.{header_of, timestamp_of, entity_of}
use Rattle.timetable.specs.Timetables.{Tables}
use Rattle.rule_table.specs.declared.key.EntityKey.{EntityKey}
use Rattle.rule_table.specs.Found.{Found}
use Rattle.rule_table.specs.Pairs.{PairRow}
use Rattle.rule_table.specs.Peaks.{PeakMap}
use Rattle.rule_history.specs.History.{Snapshot, Keyed, now, entities}
use Rattle.rule_history.specs.Answered.{rows, payload_under}
use Rattle.rule_history.specs.Peaks.{peak}

-- what groups of the four sorts find
abbrev pub FindLocal : Type 0
FindLocal = Option Tables → EntityKey → Value entity → List Found

abbrev pub FindPaired : Type 0
FindPaired = List PairRow → EntityKey → Value entity → List Found

abbrev pub FindBounded : Type 0
FindBounded = Option ℤ → ℕ → EntityKey → Value entity → List Found

abbrev pub FindPeaked : Type 0
FindPeaked = PeakMap → EntityKey → Value entity → List Found

-- an entity is there after a history, under its key and with its byte string
abbrev pub IsThere : List Snapshot → Keyed → Type 0
IsThere h e = payload_under e.0 (entities h e.0.feed) ≡ Some e.1

-- what a group finds at the entity with a key; none where there is none
abbrev pub local_part : FindLocal → Option Tables → List Snapshot → EntityKey → Option (List Found)
local_part find t h key = option_map (λ p. find t key (entity_of p)) (payload_under key (entities h key.feed))

abbrev pub paired_part : FindPaired → List Snapshot → EntityKey → Option (List Found)
paired_part find h key = option_map (λ p. find (rows h) key (entity_of p)) (payload_under key (entities h key.feed))

abbrev pub bounded_part : FindBounded → List Snapshot → EntityKey → Option (List Found)
bounded_part find h key =
    option_and_then (λ s. option_map (λ p. find (timestamp_of (header_of s.bytes)) s.moment key (entity_of p)) (payload_under key (entities h key.feed))) (now h key.feed)

abbrev pub peaked_part : FindPeaked → List Snapshot → EntityKey → Option (List Found)
peaked_part find h key = option_map (λ p. find (peak h) key (entity_of p)) (payload_under key (entities h key.feed))
