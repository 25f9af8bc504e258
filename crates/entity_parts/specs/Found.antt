-- What is found at an entity, in four parts by what it rests on, each rule by rule in the order of the rules' texts.
use Rattle.std.specs.Prelude.{◌≡◌, ℕ, ℤ, List, ◌++◌, Option, length, refl}
use Rattle.feed_values.specs.Schema.{Value}
use Rattle.feed_values.specs.Messages.{entity}
use Rattle.timetable.specs.Timetables.{Tables}
use Rattle.rule_table.specs.declared.rule.RuleId.{RuleId}
use Rattle.rule_table.specs.declared.key.EntityKey.{EntityKey}
use Rattle.rule_table.specs.Answers.{pair_answer, bound_answer, peak_answer}
use Rattle.rule_table.specs.Found.{Found}
use Rattle.rule_table.specs.Judged.{found_all}
use Rattle.rule_table.specs.Pairs.{PairRow}
use Rattle.rule_table.specs.Peaks.{PeakMap}
use Rattle.rule_history.specs.Answered.{local_answer}
use Rattle.judging.specs.message_rules.Message.{message_rules}
use Rattle.judging.specs.schedule_rules.Schedule.{schedule_rules, schedule_count}
use Rattle.pairing_rules.specs.Pairing.{pairing_rules}
use Rattle.history_rules.specs.Rules.{bound_rules, peak_rules}
use Rattle.judging.specs.Ruled.{in_rule_order}

-- by the entity and the timetable
abbrev pub local_found : Option Tables → EntityKey → Value entity → List Found
local_found t key e = in_rule_order (found_all message_rules (local_answer t key e) key e ++ found_all schedule_rules (local_answer t key e) key e)

-- by the pairing rows
abbrev pub paired_found : List PairRow → EntityKey → Value entity → List Found
paired_found rows key e = in_rule_order (found_all pairing_rules (pair_answer rows key e) key e)

-- by the header's timestamp and the moment
abbrev pub bounded_found : Option ℤ → ℕ → EntityKey → Value entity → List Found
bounded_found timestamp moment key e = in_rule_order (found_all bound_rules (bound_answer timestamp moment key e) key e)

-- by the peak of its vehicle
abbrev pub peaked_found : PeakMap → EntityKey → Value entity → List Found
peaked_found peaks key e = in_rule_order (found_all peak_rules (peak_answer peaks key e) key e)

-- ---- how many rules each part has
abbrev pub local_rules : List RuleId
local_rules = message_rules ++ schedule_rules

abbrev pub local_count : ℕ
local_count = 40

abbrev pub paired_count : ℕ
paired_count = 3

abbrev pub bounded_count : ℕ
bounded_count = 2

abbrev pub peaked_count : ℕ
peaked_count = 1
