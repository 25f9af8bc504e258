-- The entities that an exchange of the timetable concerns: those for which the two timetables don't agree.
use Rattle.std.specs.Prelude.{ℕ, not, Bool, List, filter, map, Option}
use Rattle.feed_values.specs.Schema.{Value}
use Rattle.feed_values.specs.Messages.{entity}
use Rattle.timetable.specs.Timetables.{Tables}
use Rattle.rule_table.specs.declared.key.EntityKey.{EntityKey}
use Rattle.rule_history.specs.Changed.{count_of}
use Rattle.rule_history.specs.History.{Snapshot}
use Rattle.timetable_agree.specs.Agree.{agree}
pub use Rattle.follow_engine.specs.Entities.{entities_after, entities_held, keyed_value}
use Rattle.follow_engine.specs.entity_index.Held.{KeyedValues}

abbrev pub differs : Option Tables → Option Tables → EntityKey × Value entity → Bool
differs t u e = not (agree t u e.1)

-- their keys, in the order of some entities
abbrev pub keys_of_differing : Option Tables → Option Tables → KeyedValues → List EntityKey
keys_of_differing t u es = map (λ e. e.0) (filter (differs t u) es)

-- how many there are after a history
abbrev pub retested : Option Tables → Option Tables → List Snapshot → ℕ
retested t u h = count_of (differs t u) (entities_after h)
