use Rattle.std.proofs.Common.{ap, subst, ◌∙◌}
use Rattle.std.specs.Io.KnownBytes.{append_known}
use Rattle.rt_outside.proofs.Appends.{AppendsPrefix-nothing, AppendsPrefix-whole}
use Rattle.rt_outside.specs.Sink.{AppendsPrefix}
use Rattle.run_rows.specs.follow_engine.Entities.{entities_held}
use Rattle.run_alerts.specs.Alerts.{alerts_text}
use Rattle.run_alerts.proofs.command.put_alerts.Goals as goal

-- no memory was found
pub returns-in_err-text-clause-part : goal.returns-in_err-text-clause-part
returns-in_err-text-clause-part g c = AppendsPrefix-nothing _ _

-- the lines can't be written
pub returns-in_err-put_all-clause-part : goal.returns-in_err-put_all-clause-part
returns-in_err-put_all-clause-part g c =
    subst (AppendsPrefix (g.S.Sink.state c.args.out.now).written (g.S.Sink.state c.put_all.new.sink).written) (c.deref.ensures.value ∙ c.in_ok-text.ensures.text) c.in_err-put_all.ensures.err

-- they were written
pub returns-clause-part : goal.returns-clause-part
returns-clause-part g c =
    AppendsPrefix-whole (g.S.Sink.state c.args.out.now).written (g.S.Sink.state c.put_all.new.sink).written (alerts_text c.args.moment c.args.query.now (entities_held c.args.engine.now.feeds))
    (c.in_ok-put_all.ensures.ok ∙ ap (append_known (g.S.Sink.state c.args.out.now).written) (c.deref.ensures.value ∙ c.in_ok-text.ensures.text))

pub returns-clause-whole : goal.returns-clause-whole
returns-clause-whole g c =
    c.in_ok-put_all.ensures.ok ∙ ap (append_known (g.S.Sink.state c.args.out.now).written) (c.deref.ensures.value ∙ c.in_ok-text.ensures.text)
