use Rattle.std.proofs.Common.{◌≡◌, ◌++◌}
use Rattle.rule_table.specs.Judged.{found_below}
use Rattle.rule_table.specs.Marked.{marked}
use Rattle.rule_table.proofs.judging.mark_slot.Given as goal

-- the findings of the marks so far are those at the indices so far
abbrev pub invariant-loop-index : goal.invariant-loop-index
invariant-loop-index g l =
    marked (g.A.Answers.answers l.answers) l.key l.out.items ≡
    marked (g.A.Answers.answers l.answers) l.key l.fn.out.items ++ found_below l.rule (g.A.Answers.answers l.answers) l.key l.slot l.index
