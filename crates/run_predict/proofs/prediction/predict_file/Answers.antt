use Rattle.std.proofs.Common.{refl, arith, rules, ◌∷◌, []}
use Rattle.std.specs.FinMap.{get}
use Rattle.std.specs.List.{Contains}
use Rattle.timetable.specs.Lookups.{tables_in}
use Rattle.trip_calendar.specs.Zones.{zone_of}
use Rattle.run_base.specs.Found.{snapshot_in}
use Rattle.run_predict.specs.Predicted.{IsSnapshotReport}
use Rattle.run_base.proofs.Chosen.{one_part, one_whole}
use Rattle.run_predict.proofs.prediction.predict_file.Goals as goal

pub returns-in-Ok : goal.returns-in-Ok
returns-in-Ok g c =
    one_whole (λ extent held. IsSnapshotReport extent (tables_in c.args.table.now) (zone_of c.args.zone.now) c.args.moment (snapshot_in (get held c.args.file.now)))
    (Contains (c.args.file.now ∷ [])) _ _ _ _ _ c.in-Ok.status c.in-Ok.ensures.carried_out c.in-Ok.ensures.whole

pub returns-in-Err : goal.returns-in-Err
returns-in-Err g c =
    one_part (λ extent held. IsSnapshotReport extent (tables_in c.args.table.now) (zone_of c.args.zone.now) c.args.moment (snapshot_in (get held c.args.file.now)))
    (Contains (c.args.file.now ∷ [])) _ _ _ _ _ _ c.say_fault.result c.in-Err.fault c.args.file.now (0, omega arith, refl)
    (λ e. c.in-Err.ensures.read (search rules)) (λ e. c.in-Err.ensures.write (search rules)) c.in-Err.ensures.asked c.say_fault.ensures c.in-Err.ensures.part
