-- The findings after a history, in their order: by feed, header before entities, then by id, occurrence, rule, slot and index.
use Rattle.std.specs.Prelude.{ℕ, List, [], ◌++◌, Option, Some, None}
use Rattle.std.specs.List.{flat_map}
use Rattle.feed_values.specs.Snapshot.{entity_of}
use Rattle.timetable.specs.Timetables.{Tables}
use Rattle.rule_table.specs.Table.{all_rules}
use Rattle.rule_table.specs.Found.{Found}
use Rattle.rule_table.specs.Judged.{found_all, head_found_all}
use Rattle.rule_history.specs.History.{Snapshot, Keyed, now, entities, below, feed_limit}
use Rattle.rule_history.specs.Answered.{feed_answer, answer_under}

-- at an entity: every rule at every place of it
abbrev pub entity_findings : Option Tables → List Snapshot → Keyed → List Found
entity_findings t h e = found_all all_rules (answer_under t h e.0) e.0 (entity_of e.1)

-- of a feed: on its header, then at its entities in the order of their keys
abbrev pub feed_findings : Option Tables → List Snapshot → ℕ → Option Snapshot → List Found
feed_findings t h f None = []
feed_findings t h f (Some s) = head_found_all all_rules (feed_answer t h f) f ++ flat_map (entity_findings t h) (entities h f)

-- All findings with a timetable after a history: each rule at each place where the facts that it cites there break it.
abbrev pub findings : Option Tables → List Snapshot → List Found
findings t h = below (λ f. feed_findings t h f (now h f)) feed_limit
