use Rattle.std.proofs.Common.{◌++◌, ap, ◌∙◌, arith}
use Rattle.feed_values.specs.Views.{entity_value}
use Rattle.rule_history.specs.Answered.{tables_of, local_answer}
use Rattle.rule_table.specs.Judged.{found_all}
use Rattle.judging.specs.message_rules.Message.{message_rules}
use Rattle.judging.specs.schedule_rules.Schedule.{schedule_rules, schedule_count}
use Rattle.judging.specs.Ruled.{in_rule_order}
use Rattle.entity_parts.proofs.local.LocalPartEntityPart.judge.Goals as goal

pub returns-in_err-judge-clause-most : goal.returns-in_err-judge-clause-most
returns-in_err-judge-clause-most g c = omega (arith, schedule_count, c.in_err-judge.ensures.most)

pub returns-in_err-list-clause-most : goal.returns-in_err-list-clause-most
returns-in_err-list-clause-most g c = omega (arith, schedule_count, c.in_ok-judge.ensures.ticked)

pub returns-clause-found : goal.returns-clause-found
returns-clause-found g c =
    let t = tables_of c.args.self.now.table.now in
    let k = c.args.key.now in
    let e = entity_value c.args.entity.now in
    let near = found_all message_rules (local_answer t k e) k e ++ found_all schedule_rules (local_answer t k e) k e in
    c.in_ok-list.ensures ∙ ap in_rule_order (c.into_items.ensures ∙ c.in_ok-judge.ensures.found ∙ ap (λ xs. xs ++ near) c.new-out.ensures)

pub returns-clause-ticked : goal.returns-clause-ticked
returns-clause-ticked g c = omega (arith, schedule_count, c.in_ok-judge.ensures.ticked)

pub returns-clause-most : goal.returns-clause-most
returns-clause-most g c = omega (arith, schedule_count, c.in_ok-judge.ensures.ticked)
