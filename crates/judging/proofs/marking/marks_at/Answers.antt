use Rattle.std.proofs.Common.{◌≡◌, ◌∙◌, [], arith, rules, subst, sym}
use Rattle.feed_values.specs.Views.{entity_value, feed_header_value}
use Rattle.rule_history.specs.Answered.{tables_of}
use Rattle.rule_clear.specs.Clear.{AreClear}
use Rattle.rule_table.specs.Judged.{found_all}
use Rattle.rule_table.specs.Marked.{marked}
use Rattle.judging.specs.Judged.{first_answer, first_heads}
use Rattle.judging.specs.Whole.{rows_alone}
use Rattle.judging.proofs.Joined.{local_same}
use Rattle.judging.proofs.marking.marks_at.Goals as goal

-- what is clear by the entity and the timetable is clear by all that is answered
pub mark_rules-requires : goal.mark_rules-requires
mark_rules-requires g c =
    let t = tables_of c.args.setting.now.table.now in
    let rows = g.P.PairView.rows c.args.setting.now.view.now in
    let header = feed_header_value c.args.setting.now.header.now in
    let k = c.args.key.now in
    let e = entity_value c.args.entity.now in
    subst (λ a. AreClear a k e c.of-clear.result) (sym c.answers_at-answers.ensures.answers)
    (c.of-clear.ensures k (first_answer t rows header c.args.setting.now.moment k e) (local_same t (rows_alone rows) (first_heads header c.args.setting.now.moment) k e))

pub returns-clause-ticked : goal.returns-clause-ticked
returns-clause-ticked g c = omega (arith, c.in_ok-mark_rules.ensures.ticked, c.tick_others.ensures)

pub returns-clause-most : goal.returns-clause-most
returns-clause-most g c = omega (arith, c.in_ok-mark_rules.ensures.ticked, c.tick_others.ensures)

pub returns-clause-marked : goal.returns-clause-marked
returns-clause-marked g c =
    let t = tables_of c.args.setting.now.table.now in
    let rows = g.P.PairView.rows c.args.setting.now.view.now in
    let header = feed_header_value c.args.setting.now.header.now in
    let k = c.args.key.now in
    let e = entity_value c.args.entity.now in
    let none : c.new-marks.result.items ≡ [] = search rules in
    let found = rw none at c.in_ok-mark_rules.ensures.found in
    subst (λ a. marked a k c.mark_rules.new.out.items ≡ found_all c.rules_with-rules.result.now a k e) c.answers_at-answers.ensures.answers found
    ∙ c.rules_with-rules.ensures.found (rows_alone rows) (first_heads header c.args.setting.now.moment) k e
