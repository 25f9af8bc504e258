use Rattle.std.proofs.Common.{IfOk, OnOk}
use Rattle.std.specs.FinMap.{get}
use Rattle.rt_outside.specs.Sink.{AppendsPrefix}
use Rattle.rt_outside.specs.Store.{contents_told}
use Rattle.rule_history.specs.Answered.{tables_of}
use Rattle.run_base.specs.Carried.{IsPut}
use Rattle.run_base.specs.Counted.{RoseAtMost, RoseBy, counters}
use Rattle.run_base.proofs.Chosen.{all}
use Rattle.run_base.proofs.Counted.{nothing_more}
use Rattle.run_snapshot.specs.Counted.{snapshot_work}
use Rattle.run_snapshot.specs.Reports.{accepted_report}
use Rattle.run_snapshot.proofs.Reports.{report_said, work_said}
use Rattle.run_snapshot.proofs.in_file.write_report.Goals as goal

pub returns-clause-text : goal.returns-clause-text
returns-clause-text g c =
    report_said (contents_told (g.F.Files.state c.args.files.now).told) (accepted_report (tables_of c.args.timetable.now) c.args.moment) c.args.file.now _ c.in_ok-found.ensures.found
    (λ r. AppendsPrefix (g.S.Sink.state c.args.out.now).written (g.S.Sink.state c.put_report.new.out).written r.text) c.put_report.ensures.text

pub returns-clause-whole : goal.returns-clause-whole
returns-clause-whole g c =
    report_said (contents_told (g.F.Files.state c.args.files.now).told) (accepted_report (tables_of c.args.timetable.now) c.args.moment) c.args.file.now _ c.in_ok-found.ensures.found
    (λ r. IfOk c.put_report.result (IsPut r (g.S.Sink.state c.args.out.now).written (g.S.Sink.state c.put_report.new.out).written)) c.put_report.ensures.whole

-- ---- what was decoded and tested
pub returns-in_err-found-clause-most : goal.returns-in_err-found-clause-most
returns-in_err-found-clause-most g c = all (contents_told (g.F.Files.state c.args.files.now).told) _ (λ held. nothing_more (snapshot_work (get held c.args.file.now)) (counters c.args.decodes.now c.args.tests.now))

pub returns-clause-counted : goal.returns-clause-counted
returns-clause-counted g c =
    work_said (contents_told (g.F.Files.state c.args.files.now).told) c.args.file.now _ c.in_ok-found.ensures.found
    (λ w. OnOk c.put_report.result (RoseBy w (counters c.args.decodes.now c.args.tests.now) (counters c.put_report.new.decodes c.put_report.new.tests))) c.put_report.ensures.counted

pub returns-clause-most : goal.returns-clause-most
returns-clause-most g c =
    work_said (contents_told (g.F.Files.state c.args.files.now).told) c.args.file.now _ c.in_ok-found.ensures.found
    (λ w. RoseAtMost w (counters c.args.decodes.now c.args.tests.now) (counters c.put_report.new.decodes c.put_report.new.tests)) c.put_report.ensures.most
