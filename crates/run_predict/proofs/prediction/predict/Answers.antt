use Rattle.std.proofs.Common.{inl, inr, refl, ap, Some, Err, IfSome}
use Rattle.rt_outside.specs.Store.{contents_told}
use Rattle.timetable.specs.Lookups.{tables_in}
use Rattle.run_predict.specs.Predicted.{IsPredictInput, IsPredictReport, IsZonedInput, IsZonedReport}
use Rattle.run_base.specs.Carried.{Whole}
use Rattle.run_base.specs.Faults.{IsErrorText}
use Rattle.run_base.specs.Inputs.{FailsAt}
use Rattle.run_base.specs.Report.{refused_input}
use Rattle.run_base.proofs.Told.{error_text_more}
use Rattle.run_timetable.specs.Timetables.{IsTableFile}
use Rattle.run_timetable.proofs.GivenTable.{load_input}
use Rattle.run_base.proofs.Chosen.{one_input, one_within, rose_later}
use Rattle.run_predict.proofs.Predicting.{load_refused, loaded}
use Rattle.run_predict.proofs.prediction.predict.Goals as goal

pub returns-in-Ok : goal.returns-in-Ok
returns-in-Ok g c =
    one_within (λ extent. IsZonedReport extent (tables_in c.in-Ok.table) c.args.zone.now c.args.moment c.args.file.now)
    (IsPredictReport c.args.folder.now c.args.zone.now c.args.moment c.args.file.now)
    (IsZonedInput c.args.zone.now c.args.file.now) (IsPredictInput c.args.folder.now c.args.zone.now c.args.file.now) _ _ _ _ c.predict_with.result (λ name is. inl is) _
    (rose_later _ _ _ c.load.ensures.later) c.load.ensures.contents
    (loaded (contents_told (g.F.Files.state c.args.files.now).told) (tables_in c.in-Ok.table) c.args.folder.now c.args.zone.now c.args.moment c.args.file.now c.in-Ok.ensures.ok)
    c.predict_with.ensures

pub returns-in-Err : goal.returns-in-Err
returns-in-Err g c =
    let told = contents_told (g.F.Files.state c.args.files.now).told in
    let reads = IsPredictInput c.args.folder.now c.args.zone.now c.args.file.now in
    let is = IsPredictReport c.args.folder.now c.args.zone.now c.args.moment c.args.file.now in
    one_input is reads (g.F.Files.state c.args.files.now) (g.F.Files.state c.load.new.files) _ _ _ c.say_input_fault.result c.load_fault.result
    (load_input c.args.folder.now c.in-Err.fault c.load_fault.result (FailsAt reads (g.F.Files.state c.args.files.now) (g.F.Files.state c.load.new.files))
    (λ text. IsErrorText reads text × IfSome told (λ held. is Whole held (refused_input text))) c.load_fault.ensures
    (λ file e. (inr (file, refl), c.in-Err.ensures.cause file (ap Err e), c.in-Err.ensures.asked file (ap Err e)))
    (λ read memory may. (
      error_text_more (IsTableFile (Some c.args.folder.now)) reads _ (λ name is. inr is) may,
      load_refused told c.args.folder.now c.args.zone.now c.args.moment c.args.file.now c.in-Err.fault (c.in-Err.ensures.err memory read),
    ))) c.say_input_fault.ensures
