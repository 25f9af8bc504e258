use Rattle.std.proofs.Common.{inr, None}
use Rattle.std.specs.Option.{option_copied}
use Rattle.rt_outside.specs.Store.{contents_told}
use Rattle.run_timetable.specs.Timetables.{tables_had, with_timetable, work_with_timetable}
use Rattle.run_timetable.proofs.GivenTable.{carried_unloaded, report_given, work_given}
use Rattle.run_base.proofs.Chosen.{carried_within, rose_later}
use Rattle.run_base.proofs.Counted.{counted_none, counted_within, input_ends}
use Rattle.run_follow.specs.Follow.{IsFollowed, list_report, list_work}
use Rattle.run_follow.proofs.Listed.{followed_more}
use Rattle.run_follow.proofs.command.follow.Goals as goal

pub returns-in-Ok-clause-carried : goal.returns-in-Ok-clause-carried
returns-in-Ok-clause-carried g c =
    let list = c.args.list.now in
    let folder = option_copied c.args.folder in
    let told = contents_told (g.F.Files.state c.args.files.now).told in
    let mid = contents_told (g.F.Files.state c.load_given.new.files).told in
    carried_within (list_report list (tables_had c.in-Ok.timetable)) (with_timetable (list_report list) folder) (IsFollowed mid None list) (IsFollowed told folder list)
    _ _ _ _ c.follow_list.result (followed_more mid told folder list c.load_given.ensures.contents) _ (rose_later _ _ _ c.load_given.ensures.later) c.load_given.ensures.contents
    (report_given (list_report list) folder told c.in-Ok.timetable c.in-Ok.ensures.given) c.follow_list.ensures.carried

pub returns-in-Err-clause-carried : goal.returns-in-Err-clause-carried
returns-in-Err-clause-carried g c =
    let list = c.args.list.now in
    let folder = option_copied c.args.folder in
    let told = contents_told (g.F.Files.state c.args.files.now).told in
    carried_unloaded (list_report list) folder (IsFollowed told folder list) _ _ _ _ _ c.say_input_fault.result c.in-Err.fault (λ name is. inr (inr is)) c.in-Err.ensures.refused c.say_input_fault.ensures

pub returns-in-Ok-clause-counted : goal.returns-in-Ok-clause-counted
returns-in-Ok-clause-counted g c =
    let work = list_work c.args.list.now in
    let folder = option_copied c.args.folder in
    let told = contents_told (g.F.Files.state c.args.files.now).told in
    counted_within (work (tables_had c.in-Ok.timetable)) _ _ _ c.follow_list.result (work_with_timetable work folder) told c.load_given.ensures.contents
    (work_given work folder told c.in-Ok.timetable c.in-Ok.ensures.given) c.follow_list.ensures.counted

pub returns-in-Err-clause-counted : goal.returns-in-Err-clause-counted
returns-in-Err-clause-counted g c =
    counted_none (work_with_timetable (list_work c.args.list.now) (option_copied c.args.folder)) _ _ c.say_input_fault.result (input_ends c.in-Err.fault _ _ c.say_input_fault.result c.say_input_fault.ensures)
