use Rattle.std.proofs.Common.{◌≡◌, ◌+◌, ◌++◌, drop}
use Rattle.rule_table.specs.Judged.{head_found_all}
use Rattle.rule_table.proofs.judging.judge_heads.Given as goal

-- the findings so far and those of the rules that are left are those of all rules, and each rule so far has ticked
abbrev pub invariant-loop-rule : goal.invariant-loop-rule
invariant-loop-rule g l =
    let answer = g.A.Answers.answers l.answers in
    record {
      found : l.out ++ head_found_all (drop l.rule-index l.rules) answer l.feed ≡ l.fn.out ++ head_found_all l.rules answer l.feed;
      ticked : l.steps ≡ l.fn.steps + l.rule-index;
    }
