use Rattle.std.proofs.Common.{subst}
use Rattle.std.proofs.lemmas.Result.{IfOk-weaker}
use Rattle.propagation.specs.Predictions.{IsPrediction}
use Rattle.timetable.specs.Lookups.{tables_in}
use Rattle.trip_calendar.specs.Zones.{zone_of}
use Rattle.run_predict.proofs.prediction.update_rows.Goals as goal

pub returns : goal.returns
returns c =
    let p = c.in_ok-predictions.predictions in
    let in_zone =
    subst (λ z. IsPrediction (tables_in c.new.result.table.now) (zone_of z) c.args.update.now c.args.moment p) c.new.ensures.zone c.in_ok-predictions.ensures in
    let is = subst (λ t. IsPrediction (tables_in t) (zone_of c.args.zone.now) c.args.update.now c.args.moment p) c.new.ensures.table in_zone in
    IfOk-weaker c.prediction_rows.result _ _ (λ rows h. (p, is, h)) c.prediction_rows.ensures
