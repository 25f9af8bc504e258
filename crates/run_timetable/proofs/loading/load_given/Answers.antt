use Rattle.std.proofs.Common.{◌∙◌, ap, refl, sym, subst, Some, Err, IfSome}
use Rattle.std.specs.Option.{option_copied}
use Rattle.rt_outside.specs.Store.{contents_told}
use Rattle.run_base.specs.Inputs.{FailsAt, TellsInput}
use Rattle.run_timetable.specs.Timetables.{IsGiven, IsLoadText, IsTableFile}
use Rattle.run_timetable.proofs.GivenTable.{folder_given, folder_refused, load_input, none_given}
use Rattle.run_timetable.proofs.loading.load_given.Goals as goal

pub returns-in-None-clause-given : goal.returns-in-None-clause-given
returns-in-None-clause-given g c =
    let told = contents_told (g.F.Files.state c.args.files.now).told in
    subst (λ f. IfSome told (λ held. IsGiven (option_copied f) held c.absent.result)) (sym c.in-None.is) (none_given told c.absent.result c.absent.ensures.present)

pub returns-in-Ok-clause-given : goal.returns-in-Ok-clause-given
returns-in-Ok-clause-given g c =
    let told = contents_told (g.F.Files.state c.args.files.now).told in
    subst (λ f. IfSome told (λ held. IsGiven f held c.in-Ok.timetable)) (ap Some c.as_str-folder.ensures ∙ ap option_copied (sym c.in-Some.is))
    (folder_given told c.as_str-folder.result.now c.in-Ok.timetable c.in-Ok.ensures.present c.in-Ok.ensures.ok)

pub returns-in-Err-clause-refused : goal.returns-in-Err-clause-refused
returns-in-Err-clause-refused g c =
    let first = g.F.Files.state c.args.files.now in
    let later = g.F.Files.state c.load.new.files in
    let told = contents_told first.told in
    let name = c.as_str-folder.result.now in
    subst (λ f. TellsInput (FailsAt (IsTableFile f) first later) (IsLoadText told f) c.load_fault.result) (ap Some c.as_str-folder.ensures ∙ ap option_copied (sym c.in-Some.is))
    (load_input name c.in-Err.fault c.load_fault.result (FailsAt (IsTableFile (Some name)) first later) (IsLoadText told (Some name)) c.load_fault.ensures
    (λ file e. ((file, refl), c.in-Err.ensures.cause file (ap Err e), c.in-Err.ensures.asked file (ap Err e)))
    (λ read memory may. folder_refused told name c.in-Err.fault may (c.in-Err.ensures.err memory read)))
