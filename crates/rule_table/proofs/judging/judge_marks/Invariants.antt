use Rattle.std.proofs.Common.{◌≡◌, ◌++◌, drop}
use Rattle.rule_table.specs.Marked.{marked}
use Rattle.rule_table.proofs.judging.judge_marks.Given as goal

-- the findings so far and those of the marks that are left are those of all marks
abbrev pub invariant-loop-mark : goal.invariant-loop-mark
invariant-loop-mark g l =
    l.out ++ marked (g.A.Answers.answers l.answers) l.key (drop l.mark-index l.marks) ≡
    l.fn.out ++ marked (g.A.Answers.answers l.answers) l.key l.marks
