use Rattle.std.proofs.Common.{ap, ◌∙◌, rules}
use Rattle.std.proofs.lemmas.List.Sorted.{answers_always, IsNonDecreasingBy-from_sort_by_key}
use Rattle.rule_table.specs.Found.{Found}
use Rattle.rule_table.specs.declared.rule.RuleId.{RuleId}
use Rattle.judging.specs.Ruled.{in_rule_order}
use Rattle.judging.proofs.ByRule.{number, sorted_is}
use Rattle.judging.proofs.ruling.rule_by_rule.Goals as goal

pub returns : goal.returns
unfolding in_rule_order
returns c =
    let rule_of : Found → RuleId = λ f. f.rule in
    c.from_vec.ensures
    ∙ sorted_is rule_of c.into_vec-list.result.items c.sort_by_key.new.self.items (c.in_ok-sort_by_key.ensures.stable (number rule_of) (answers_always _ _ _ (λ f a r g h. search rules)))
    (IsNonDecreasingBy-from_sort_by_key (number rule_of) c.sort_by_key.new.self.items c.in_ok-sort_by_key.ensures.sorted (λ a r q k. search rules))
    ∙ ap in_rule_order c.into_vec-list.ensures
