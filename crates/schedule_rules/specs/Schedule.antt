-- The rules against the timetable: those that ask it something.
use Rattle.std.specs.Prelude.{◌≡◌, true, length, filter, List, refl}
use Rattle.rule_table.specs.declared.rule.RuleId.{RuleId}
use Rattle.rule_table.specs.Groups.{are_apart}
use Rattle.rule_table.specs.Asks.{asks, is_timetable}
use Rattle.rule_table.specs.Table.{all_rules}

-- in the order of their texts
unfoldable pub schedule_rules : List RuleId
schedule_rules = filter (asks is_timetable) all_rules

-- none of them stands twice
pub schedule_apart : are_apart schedule_rules ≡ true
unfolding schedule_rules
schedule_apart = refl

-- how many they are
pub schedule_count : length schedule_rules ≡ 18
unfolding schedule_rules
schedule_count = refl
