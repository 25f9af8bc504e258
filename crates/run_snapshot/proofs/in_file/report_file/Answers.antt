use Rattle.std.proofs.Common.{refl, arith, rules, ◌∷◌, []}
use Rattle.std.specs.List.{Contains}
use Rattle.rule_history.specs.Answered.{tables_of}
use Rattle.run_base.specs.Report.{file_report}
use Rattle.std.specs.FinMap.{get}
use Rattle.run_base.proofs.Carried.{carried_fault}
use Rattle.run_base.proofs.Chosen.{carried_put, file_silent}
use Rattle.run_base.proofs.Counted.{counted_part, counted_whole, fault_ends}
use Rattle.run_snapshot.specs.Counted.{snapshot_work}
use Rattle.run_snapshot.specs.Reports.{accepted_report}
use Rattle.run_snapshot.proofs.in_file.report_file.Goals as goal

pub returns-in-Ok-clause-carried : goal.returns-in-Ok-clause-carried
returns-in-Ok-clause-carried g c =
    let accepts = accepted_report (tables_of c.args.timetable.now) c.args.moment in
    carried_put (file_report accepts c.args.file.now) (Contains (c.args.file.now ∷ [])) _ _ c.in-Ok.status c.in-Ok.ensures.carried_out refl
    (file_silent accepts (λ bytes. refl) c.args.file.now) c.in-Ok.ensures.whole

pub returns-in-Err-clause-carried : goal.returns-in-Err-clause-carried
returns-in-Err-clause-carried g c =
    carried_fault (file_report (accepted_report (tables_of c.args.timetable.now) c.args.moment) c.args.file.now) _ _ _ c.say_fault.result c.in-Err.ensures.text c.in-Err.fault c.args.file.now (0, omega arith, refl)
    (λ e. c.in-Err.ensures.read (search rules)) (λ e. c.in-Err.ensures.write (search rules)) c.in-Err.ensures.asked c.say_fault.ensures

-- ---- what was decoded and tested
pub returns-in-Ok-clause-counted : goal.returns-in-Ok-clause-counted
returns-in-Ok-clause-counted g c = counted_whole (λ held. snapshot_work (get held c.args.file.now)) _ _ _ c.in-Ok.status c.in-Ok.ensures.counted

pub returns-in-Err-clause-counted : goal.returns-in-Err-clause-counted
returns-in-Err-clause-counted g c =
    counted_part (λ held. snapshot_work (get held c.args.file.now)) _ _ _ c.say_fault.result (fault_ends c.in-Err.fault c.args.file.now _ _ c.say_fault.result c.say_fault.ensures) c.in-Err.ensures.most
