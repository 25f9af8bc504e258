-- The rules that ask for pairing rows.
use Rattle.std.specs.Prelude.{filter, List}
use Rattle.rule_table.specs.declared.rule.RuleId.{RuleId}
use Rattle.rule_table.specs.Asks.{asks, is_rows}
use Rattle.rule_table.specs.Table.{all_rules}

-- in the order of their texts
abbrev pub pairing_rules : List RuleId
pairing_rules = filter (asks is_rows) all_rules
