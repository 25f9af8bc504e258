-- Things rule by rule, in the order of some rules, and those of one rule as they stood.
use Rattle.std.specs.Prelude.{◌++◌, Bool, List, [], ◌∷◌, filter}
use Rattle.rule_table.specs.declared.rule.RuleId.{RuleId}
use Rattle.rule_table.specs.Rules.{same_rule}
use Rattle.rule_table.specs.Found.{Found}

-- things that are each of a rule
abbrev pub each_by_rule : {A : Type 0} → (A → RuleId) → List RuleId → List A → List A
each_by_rule rule_of [] xs = []
each_by_rule rule_of (rule ∷ rules) xs = filter (λ x. same_rule (rule_of x) rule) xs ++ each_by_rule rule_of rules xs

-- findings
abbrev pub of_rule : RuleId → Found → Bool
of_rule rule f = same_rule f.rule rule

abbrev pub by_rule : List RuleId → List Found → List Found
by_rule rules fs = each_by_rule (λ f. f.rule) rules fs
