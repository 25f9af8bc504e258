use Rattle.std.proofs.Common.{◌≡◌, ◌++◌, drop}
use Rattle.rule_table.specs.Judged.{found_on}
use Rattle.rule_table.specs.Table.{head_slots_of}
use Rattle.rule_table.proofs.judging.judge_head.Given as goal

-- the findings so far and those of the slots that are left are those of all slots
abbrev pub invariant-loop-slot : goal.invariant-loop-slot
invariant-loop-slot g l =
    l.out ++ found_on l.rule (g.A.Answers.answers l.answers) l.feed (drop l.slot-index (head_slots_of l.rule)) ≡
    l.fn.out ++ found_on l.rule (g.A.Answers.answers l.answers) l.feed (head_slots_of l.rule)
