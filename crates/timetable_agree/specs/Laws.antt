-- What agreeing is for: with either timetable the same is found.
use Rattle.std.specs.Prelude.{◌≡◌, true, List, Option, Some, None, bytes_eq}
use Rattle.std.specs.List.{IsDistinct}
use Rattle.feed_values.specs.Schema.{Value}
use Rattle.feed_values.specs.Messages.{entity}
use Rattle.timetable.specs.Timetables.{Tables}
use Rattle.rule_table.specs.declared.rule.RuleId.{RuleId}
use Rattle.rule_table.specs.declared.key.EntityKey.{EntityKey}
use Rattle.rule_table.specs.Judged.{found_all}
use Rattle.rule_history.specs.Answered.{local_answer}
use Rattle.timetable_agree.specs.Agree.{agree}

-- no stop has two numbers, which is so of each timetable
abbrev pub HasEachStopOnce : Option Tables → Type 0
HasEachStopOnce None = Unit {0}
HasEachStopOnce (Some t) = IsDistinct bytes_eq t.stop_times.stops

-- Where they agree for an entity, any rules find the same by the entity and the one as by the entity and the other.
abbrev pub FindAlike : Option Tables → Option Tables → Type 0
FindAlike a b = (key : EntityKey) (e : Value entity) → agree a b e ≡ true → (rules : List RuleId) → found_all rules (local_answer a key e) key e ≡ found_all rules (local_answer b key e) key e

abbrev pub AgreeingFindAlike : Type 0
AgreeingFindAlike = (a b : Option Tables) → HasEachStopOnce a → HasEachStopOnce b → FindAlike a b
