use Rattle.std.proofs.Common.{inl, inr, rules, ◌∷◌, []}
use Rattle.std.specs.FinMap.{get}
use Rattle.std.specs.List.{Contains}
use Rattle.rt_outside.specs.Store.{contents_told}
use Rattle.timetable.specs.Lookups.{tables_in}
use Rattle.trip_calendar.specs.Zones.{zone_of}
use Rattle.run_base.specs.Found.{snapshot_in}
use Rattle.run_predict.specs.Predicted.{IsSnapshotReport, IsZonedInput, IsZonedReport}
use Rattle.run_base.proofs.Chosen.{one_within, rose_later}
use Rattle.run_predict.proofs.Zoning.{one_zone_fault}
use Rattle.run_predict.proofs.Predicting.{zone_refused, zoned}
use Rattle.run_predict.proofs.prediction.predict_with.Goals as goal

pub returns-in-Ok : goal.returns-in-Ok
returns-in-Ok g c =
    one_within (λ extent held. IsSnapshotReport extent (tables_in c.args.table.now) (zone_of c.in-Ok.zone) c.args.moment (snapshot_in (get held c.args.file.now)))
    (λ extent. IsZonedReport extent (tables_in c.args.table.now) c.args.zone.now c.args.moment c.args.file.now)
    (Contains (c.args.file.now ∷ [])) (IsZonedInput c.args.zone.now c.args.file.now) _ _ _ _ c.predict_file.result (λ name is. inl is) _
    (rose_later _ _ _ c.zone_input.ensures.later) c.zone_input.ensures.contents
    (zoned (contents_told (g.F.Files.state c.args.files.now).told) (tables_in c.args.table.now) [] c.args.zone.now c.args.moment c.args.file.now c.in-Ok.zone c.in-Ok.ensures.ok) c.predict_file.ensures

pub returns-in-Err : goal.returns-in-Err
returns-in-Err g c =
    one_zone_fault (λ extent. IsZonedReport extent (tables_in c.args.table.now) c.args.zone.now c.args.moment c.args.file.now)
    (IsZonedInput c.args.zone.now c.args.file.now) _ _ _ _ _ c.say_input_fault.result c.args.zone.now c.in-Err.fault c.told_as.result
    (λ no_zone no_memory. inr (c.in-Err.ensures.named no_zone no_memory))
    (λ read memory. zone_refused (contents_told (g.F.Files.state c.args.files.now).told) (tables_in c.args.table.now) [] c.args.zone.now c.args.moment c.args.file.now c.in-Err.fault (c.in-Err.ensures.err read memory))
    (λ e. c.in-Err.ensures.read (search rules)) (λ e. c.in-Err.ensures.asked (search rules)) c.told_as.ensures c.say_input_fault.ensures
