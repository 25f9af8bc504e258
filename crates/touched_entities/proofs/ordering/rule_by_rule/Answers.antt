use Rattle.std.proofs.Common.{ap, ◌∙◌, rules}
use Rattle.std.proofs.lemmas.List.Sorted.{answers_always, IsNonDecreasingBy-from_sort_by_key}
use Rattle.rule_table.specs.ByRule.{each_by_rule}
use Rattle.rule_table.specs.Table.{all_rules}
use Rattle.entity_parts.specs.judging.ByRuleProofs.{number, sorted_is}
use Rattle.touched_entities.proofs.ordering.rule_by_rule.Goals as goal

pub returns : goal.returns
returns g c =
    let rule_of = g.T.OfRule.rule_of in
    c.from_vec.ensures
    ∙ sorted_is rule_of c.into_vec-list.result.items c.sort_by_key.new.self.items (c.in_ok-sort_by_key.ensures.stable (number rule_of) (answers_always _ _ _ (λ f a r g h. search rules)))
    (IsNonDecreasingBy-from_sort_by_key (number rule_of) c.sort_by_key.new.self.items c.in_ok-sort_by_key.ensures.sorted (λ a r q k. search rules))
    ∙ ap (each_by_rule rule_of all_rules) c.into_vec-list.ensures
