use Rattle.std.proofs.Common.{◌≡◌, ◌+◌, ◌++◌, drop}
use Rattle.feed_values.specs.Views.{entity_value}
use Rattle.rule_table.specs.Judged.{found_all}
use Rattle.rule_table.specs.Marked.{marked}
use Rattle.rule_table.proofs.judging.mark_rules.Given as goal

-- the findings of the marks so far and those of the rules that are left are those of all rules, and each rule so far has ticked
abbrev pub invariant-loop-rule : goal.invariant-loop-rule
invariant-loop-rule g l =
    let answer = g.A.Answers.answers l.answers in
    record {
      found : marked answer l.key l.out.items ++ found_all (drop l.rule-index l.rules) answer l.key (entity_value l.entity)
          ≡ marked answer l.key l.fn.out.items ++ found_all l.rules answer l.key (entity_value l.entity);
      ticked : l.steps ≡ l.fn.steps + l.rule-index;
    }
