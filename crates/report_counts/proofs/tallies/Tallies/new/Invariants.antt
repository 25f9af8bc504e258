use Rattle.std.proofs.Common.{◌≡◌, [], map, take}
use Rattle.rule_table.specs.declared.rule.RuleId.{RuleId}
use Rattle.rule_tally.specs.Tallies.{tally_of}
use Rattle.report_counts.proofs.tallies.Tallies.new.Given as goal

-- a tally for each rule so far
abbrev pub invariant-loop-rule : goal.invariant-loop-rule
invariant-loop-rule l = l.tallies.items ≡ map (λ (rule : RuleId). tally_of []) (take l._rule-index l.rules)
