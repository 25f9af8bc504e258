use Rattle.std.proofs.Common.{◌≡◌, ◌+◌, ◌≤◌, ◌++◌, List, length, subst, OnOk}
use Rattle.feed_values.specs.Views.{entity_value}
use Rattle.rule_history.specs.Answered.{tables_of, local_answer}
use Rattle.rule_table.specs.Found.{Found}
use Rattle.rule_table.specs.Judged.{found_all}
use Rattle.rule_table.specs.declared.rule.RuleId.{RuleId}
use Rattle.message_rules.specs.Message.{error_rules, other_rules}
use Rattle.message_rules.proofs.Joined.{found_both}
use Rattle.message_rules.proofs.group.MessageGroupLocalRule.judge.Goals as goal

pub returns-clause-found : goal.returns-clause-found
returns-clause-found g c =
    let inner = c.args.self.now.inner in
    let answer = local_answer (tables_of c.args.table.now) c.args.key.now (entity_value c.args.entity.now) in
    let found : List RuleId → List Found = λ rules. found_all rules answer c.args.key.now (entity_value c.args.entity.now) in
    subst (λ list. OnOk c.judge.result (c.judge.new.out ≡ c.args.out.now ++ list)) (found_both error_rules other_rules answer c.args.key.now (entity_value c.args.entity.now))
    (subst (λ rules. OnOk c.judge.result (c.judge.new.out ≡ c.args.out.now ++ (found rules ++ found other_rules))) c.args.self.now.errors
    (subst (λ rules. OnOk c.judge.result (c.judge.new.out ≡ c.args.out.now ++ (found inner.first.rules.now ++ found rules))) c.args.self.now.others c.judge.ensures.found))

pub returns-clause-ticked : goal.returns-clause-ticked
returns-clause-ticked g c =
    let inner = c.args.self.now.inner in
    subst (λ rules. OnOk c.judge.result (c.judge.new.steps ≡ c.args.steps.now + length (rules ++ other_rules))) c.args.self.now.errors
    (subst (λ rules. OnOk c.judge.result (c.judge.new.steps ≡ c.args.steps.now + length (inner.first.rules.now ++ rules))) c.args.self.now.others c.judge.ensures.ticked)

pub returns-clause-most : goal.returns-clause-most
returns-clause-most g c =
    let inner = c.args.self.now.inner in
    subst (λ rules. c.judge.new.steps ≤ c.args.steps.now + length (rules ++ other_rules)) c.args.self.now.errors
    (subst (λ rules. c.judge.new.steps ≤ c.args.steps.now + length (inner.first.rules.now ++ rules)) c.args.self.now.others c.judge.ensures.most)
