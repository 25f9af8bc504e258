use Rattle.std.proofs.Common.{◌++◌, ◌∷◌, [], map, take, ap, ◌∙◌}
use Rattle.rule_table.specs.declared.rule.RuleId.{RuleId}
use Rattle.rule_tally.specs.Tallies.{tally_of}
use Rattle.report_counts.proofs.RuleLemmas.{pushed}
use Rattle.report_counts.proofs.tallies.Tallies.new.Goals as goal

pub loop-rule-preserved : goal.loop-rule-preserved
loop-rule-preserved c =
    let rules = c.all_rules-rules.result.now in
    let so_far = map (λ (rule : RuleId). tally_of []) (take c.loop-rule._rule-index rules) in
    c.in_ok-push.ensures.items ∙ ap (λ xs. xs ++ c.new-tally.result ∷ []) c.loop-rule.invariant ∙ ap (λ t. so_far ++ t ∷ []) c.new-tally.ensures
    ∙ pushed (tally_of []) rules c.loop-rule._rule-index c.loop-rule-test.true
