use Rattle.std.proofs.Common.{IfOk, Some, sym, subst}
use Rattle.timetable.specs.Lookups.{tables_in}
use Rattle.trip_calendar.specs.Zones.{zone_of}
use Rattle.run_predict.specs.Predicted.{AreUpdateRows}
use Rattle.run_predict.proofs.prediction.entity_rows.Goals as goal

pub returns-in-Some : goal.returns-in-Some
returns-in-Some c =
    let t = tables_in c.args.table.now in
    let zone = zone_of c.args.zone.now in
    let shown = subst (λ u. IfOk c.update_rows.result (λ rows. AreUpdateRows t zone c.args.moment c.as_str.result.now c.args.occurrence (Some u) rows.items)) c.deref.ensures c.update_rows.ensures in
    let named = subst (λ id. IfOk c.update_rows.result (λ rows. AreUpdateRows t zone c.args.moment id c.args.occurrence (Some c.in-Some.update) rows.items)) c.as_str.ensures shown in
    subst (λ o. IfOk c.update_rows.result (λ rows. AreUpdateRows t zone c.args.moment c.args.entity.now.id c.args.occurrence o rows.items)) (sym c.in-Some.is) named
