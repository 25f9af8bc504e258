use Rattle.std.proofs.Common.{◌∙◌, ap, sym}
use Rattle.alert_terms.specs.InForce.{alerts_in}
use Rattle.follow_engine.specs.Entities.{entities_held, keyed_value}
use Rattle.alert_view.proofs.Taken.{all_taken, handed_out, none_left, taken_more}
use Rattle.alert_view.proofs.view.AlertView.new.Goals as goal

-- the alert of one entity more
pub loop-key-preserved : goal.loop-key-preserved
loop-key-preserved c =
    taken_more c.loop-key.alerts c.push_alert.new.alerts c.loop-key.key-iterator (keyed_value (c.in-Some.key, c.in-Some.entity)) c.next.new.self (alerts_in (entities_held c.args.engine.now.feeds))
    (handed_out c.loop-key.key-iterator c.next.new.self c.next.result _ c.in-Some.is c.next.ensures.steps) c.in_ok-push_alert.ensures c.loop-key.invariant

pub returns-clause-held : goal.returns-clause-held
returns-clause-held c =
    all_taken c.loop-key.alerts c.loop-key.key-iterator (alerts_in (entities_held c.args.engine.now.feeds))
    (none_left c.loop-key.key-iterator c.next.new.self c.next.result c.in-None.is c.next.ensures.steps) c.loop-key.invariant
