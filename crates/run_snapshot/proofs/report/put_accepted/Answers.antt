use Rattle.std.proofs.Common.{◌∙◌, ap, subst}
use Rattle.std.specs.Io.KnownBytes.{append_known}
use Rattle.rt_outside.specs.Sink.{AppendsPrefix}
use Rattle.rule_history.specs.Answered.{tables_of}
use Rattle.run_snapshot.proofs.Reports.{accepted_status_is, accepted_text_is}
use Rattle.run_snapshot.proofs.report.put_accepted.Goals as goal

pub returns-in_err-error-clause-text : goal.returns-in_err-error-clause-text
returns-in_err-error-clause-text g c =
    subst (AppendsPrefix (g.S.Sink.state c.args.out.now).written (g.S.Sink.state c.put_findings.new.out).written)
    (accepted_text_is (tables_of c.args.timetable.now) c.args.moment c.args.kept.now c.len-count.result c.in_ok-line.line.items c.len-count.ensures c.in_ok-line.ensures) c.put_findings.ensures.text

pub returns-clause-text : goal.returns-clause-text
returns-clause-text g c =
    subst (AppendsPrefix (g.S.Sink.state c.args.out.now).written (g.S.Sink.state c.put_findings.new.out).written)
    (accepted_text_is (tables_of c.args.timetable.now) c.args.moment c.args.kept.now c.len-count.result c.in_ok-line.line.items c.len-count.ensures c.in_ok-line.ensures) c.put_findings.ensures.text

pub returns-clause-whole : goal.returns-clause-whole
returns-clause-whole g c = (
  c.found.ensures.answer ∙ accepted_status_is (tables_of c.args.timetable.now) c.args.moment c.args.kept.now c.in_ok-error.error c.in_ok-error.ensures.whole.0,
  c.in_ok-error.ensures.whole.1 ∙ ap (append_known (g.S.Sink.state c.args.out.now).written)
      (accepted_text_is (tables_of c.args.timetable.now) c.args.moment c.args.kept.now c.len-count.result c.in_ok-line.line.items c.len-count.ensures c.in_ok-line.ensures),
)
