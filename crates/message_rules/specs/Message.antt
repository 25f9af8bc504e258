-- The rules within one message: those that cite nothing but the cells of one entity, and its occurrence.
use Rattle.std.specs.Prelude.{◌&&◌, not, Bool, filter, List, ◌++◌, bytes_eq, codes}
use Rattle.rule_table.specs.declared.rule.RuleId.{RuleId}
use Rattle.rule_table.specs.Asks.{has_places, is_entity}
use Rattle.rule_table.specs.Rules.{level}
use Rattle.rule_table.specs.Sources.{comes_from}
use Rattle.rule_table.specs.Table.{all_rules}

abbrev is_within : RuleId → Bool
is_within rule = has_places rule && comes_from is_entity rule

abbrev is_error : RuleId → Bool
is_error rule = bytes_eq (level rule) (codes "E")

-- the errors, in the order of their texts
abbrev pub error_rules : List RuleId
error_rules = filter (λ r. is_within r && is_error r) all_rules

-- the warnings, and what the profile adds
abbrev pub other_rules : List RuleId
other_rules = filter (λ r. is_within r && not (is_error r)) all_rules

-- all of them
abbrev pub message_rules : List RuleId
message_rules = error_rules ++ other_rules
