use Rattle.std.proofs.Common.{◌≡◌, [], None, rules, subst, sym}
use Rattle.std.specs.declared.option.Option.{Option}
use Rattle.feed_values.specs.Views.{entity_value, feed_header_value}
use Rattle.timetable.specs.Timetables.{Tables}
use Rattle.rule_history.specs.Answered.{tables_of}
use Rattle.judging.specs.Judged.{first_heads}
use Rattle.judging.specs.Whole.{entity_found, rows_alone}
use Rattle.quiet_vehicles.specs.Quiet.{IsQuiet}
use Rattle.quiet_vehicles.proofs.NoneWhereQuiet.{nothing}
use Rattle.quiet_vehicles.proofs.marking.marks_of.Goals as goal

-- where no timetable is asked, a quiet vehicle position has no findings
pub returns-then-is_quiet-clause-marked : goal.returns-then-is_quiet-clause-marked
returns-then-is_quiet-clause-marked g c =
    let rows = g.P.PairView.rows c.args.setting.now.view.now in
    let header = feed_header_value c.args.setting.now.header.now in
    let k = c.args.key.now in
    let e = entity_value c.args.entity.now in
    let quiet : IsQuiet rows header c.args.setting.now.moment k e = search rules in
    let absent : tables_of c.args.setting.now.table.now ≡ None = search rules in
    let none : c.new-none.result.items ≡ [] = search rules in
    rw none
    (subst (λ (t : Option Tables). [] ≡ entity_found t (rows_alone rows) (first_heads header c.args.setting.now.moment) k e) (sym absent)
    (sym (nothing rows header c.args.setting.now.moment k e quiet)))
