use Rattle.std.proofs.Common.{◌≡◌, ◌++◌, drop}
use Rattle.feed_values.specs.Views.{entity_value}
use Rattle.rule_table.specs.Judged.{found_in}
use Rattle.rule_table.specs.Marked.{marked}
use Rattle.rule_table.specs.Table.{slots_of}
use Rattle.rule_table.proofs.judging.mark_rule.Given as goal

-- the findings of the marks so far and those of the slots that are left are those of all slots
abbrev pub invariant-loop-number : goal.invariant-loop-number
invariant-loop-number g l =
    marked (g.A.Answers.answers l.answers) l.key l.out.items ++ found_in l.rule (g.A.Answers.answers l.answers) l.key (entity_value l.entity) (drop l.number (slots_of l.rule)) ≡
    marked (g.A.Answers.answers l.answers) l.key l.fn.out.items ++ found_in l.rule (g.A.Answers.answers l.answers) l.key (entity_value l.entity) (slots_of l.rule)
