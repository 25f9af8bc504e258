-- Findings rule by rule, in the order of the rules' texts.
use Rattle.std.specs.Prelude.{◌≡◌, List, filter, length, refl}
use Rattle.rule_table.specs.declared.rule.RuleId.{RuleId}
pub use Rattle.rule_table.specs.ByRule.{of_rule, by_rule}
use Rattle.rule_table.specs.Table.{all_rules}
use Rattle.rule_table.specs.Asks.{has_places}
use Rattle.rule_table.specs.Found.{Found}

-- findings in the order of all rules
unfoldable pub in_rule_order : List Found → List Found
in_rule_order fs = by_rule all_rules fs

-- ---- the rules with places at an entity, which are those of its groups
unfoldable pub entity_rules : List RuleId
entity_rules = filter has_places all_rules

-- how many they are
pub entity_count : length entity_rules ≡ 46
unfolding entity_rules
entity_count = refl
