-- What is true of every rule, told by computing over the list of all rules.
use Rattle.std.specs.Prelude.{◌≡◌, ℕ, zero, suc, Bool, true, List, [], ◌∷◌, Some, slice_get, refl}
use Rattle.std.specs.List.{list_all}
use Rattle.std.proofs.Common.{inl, inr, sym, ap, ◌∙◌}
use Rattle.std.proofs.lemmas.Bool.{and_parts}
use Rattle.std.proofs.lemmas.Option.{same_Some}
use Rattle.rule_table.specs.declared.rule.RuleId.{RuleId}
use Rattle.rule_table.specs.declared.rule.RuleId.TheVariants.{E001}
use Rattle.rule_table.specs.ClearSlots.{IsAmong}
use Rattle.rule_table.specs.Rules.{rule_number}
use Rattle.rule_table.specs.Table.{all_rules}

-- a rule stands in the list at its number
pub numbered : (rule : RuleId) → slice_get all_rules (rule_number rule) ≡ Some rule
numbered E001 = refl
numbered _ = refl

get_among : {A : Type 0} (xs : List A) (k : ℕ) (x : A) → slice_get xs k ≡ Some x → IsAmong x xs
get_among [] k x h = cc
get_among (y ∷ xs) zero x h = inl (sym (same_Some y x h))
get_among (y ∷ xs) (suc k) x h = inr (get_among xs k x h)

pub is_rule : (rule : RuleId) → IsAmong rule all_rules
is_rule rule = get_among all_rules (rule_number rule) rule (numbered rule)

all_among : {A : Type 0} (test : A → Bool) (xs : List A) → list_all test xs ≡ true → (x : A) → IsAmong x xs → test x ≡ true
all_among test [] h x m = absurd m
all_among test (y ∷ xs) h x (inl e) = ap test e ∙ (and_parts (test y) (list_all test xs) h).0
all_among test (y ∷ xs) h x (inr m) = all_among test xs (and_parts (test y) (list_all test xs) h).1 x m

-- a test that is true of all listed rules is true of each rule
pub each_rule : (test : RuleId → Bool) → list_all test all_rules ≡ true → (rule : RuleId) → test rule ≡ true
each_rule test h rule = all_among test all_rules h rule (is_rule rule)
