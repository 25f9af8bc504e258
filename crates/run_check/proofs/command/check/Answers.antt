use Rattle.std.proofs.Common.{inl, inr}
use Rattle.std.specs.List.{Contains}
use Rattle.std.specs.Option.{option_copied}
use Rattle.rt_outside.specs.Store.{contents_told}
use Rattle.run_base.proofs.Chosen.{carried_within, rose_later}
use Rattle.run_base.proofs.Counted.{counted_none, counted_within, input_ends}
use Rattle.run_rows.specs.Counted.{files_work}
use Rattle.run_timetable.specs.Timetables.{tables_had, with_timetable, work_with_timetable}
use Rattle.run_timetable.proofs.GivenTable.{carried_unloaded, report_given, work_given}
use Rattle.run_check.specs.Check.{IsInput, files_report}
use Rattle.run_check.proofs.command.check.Goals as goal

pub returns-in-Ok-clause-carried : goal.returns-in-Ok-clause-carried
returns-in-Ok-clause-carried g c =
    let names = c.args.names.now in
    let folder = option_copied c.args.folder in
    carried_within (files_report (tables_had c.in-Ok.timetable) c.args.moment names) (with_timetable (λ t. files_report t c.args.moment names) folder) (Contains names) (IsInput folder names)
    _ _ _ _ c.check_files.result (λ name is. inl is) _ (rose_later _ _ _ c.load_given.ensures.later) c.load_given.ensures.contents
    (report_given (λ t. files_report t c.args.moment names) folder (contents_told (g.F.Files.state c.args.files.now).told) c.in-Ok.timetable c.in-Ok.ensures.given) c.check_files.ensures.carried

pub returns-in-Err-clause-carried : goal.returns-in-Err-clause-carried
returns-in-Err-clause-carried g c =
    let names = c.args.names.now in
    let folder = option_copied c.args.folder in
    carried_unloaded (λ t. files_report t c.args.moment names) folder (IsInput folder names) _ _ _ _ _ c.say_input_fault.result c.in-Err.fault (λ name is. inr is) c.in-Err.ensures.refused
    c.say_input_fault.ensures

pub returns-in-Ok-clause-counted : goal.returns-in-Ok-clause-counted
returns-in-Ok-clause-counted g c =
    let folder = option_copied c.args.folder in
    let told = contents_told (g.F.Files.state c.args.files.now).told in
    counted_within (files_work (tables_had c.in-Ok.timetable) c.args.moment c.args.names.now) _ _ _ c.check_files.result (work_with_timetable (λ t. files_work t c.args.moment c.args.names.now) folder) told c.load_given.ensures.contents
    (work_given (λ t. files_work t c.args.moment c.args.names.now) folder told c.in-Ok.timetable c.in-Ok.ensures.given) c.check_files.ensures.counted

pub returns-in-Err-clause-counted : goal.returns-in-Err-clause-counted
returns-in-Err-clause-counted g c =
    counted_none (work_with_timetable (λ t. files_work t c.args.moment c.args.names.now) (option_copied c.args.folder)) _ _ c.say_input_fault.result (input_ends c.in-Err.fault _ _ c.say_input_fault.result c.say_input_fault.ensures)
