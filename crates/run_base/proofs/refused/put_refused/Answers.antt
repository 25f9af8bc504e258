use Rattle.std.proofs.Common.{ap, ◌∙◌}
use Rattle.std.specs.Io.KnownBytes.{append_known}
use Rattle.rt_outside.proofs.Appends.{AppendsPrefix-whole}
use Rattle.run_base.specs.Report.{Report, refused_report}
use Rattle.run_base.proofs.refused.put_refused.Goals as goal

pub returns-clause-text : goal.returns-clause-text
returns-clause-text g c =
    let report : Report = refused_report c.args.refusal.now in
    AppendsPrefix-whole (g.S.Sink.state c.args.out.now).written (g.S.Sink.state c.put_all.new.sink).written report.text
    (c.in_ok-put_all.ensures.ok ∙ ap (append_known (g.S.Sink.state c.args.out.now).written) (c.deref.ensures.value ∙ c.in_ok-line.ensures))
