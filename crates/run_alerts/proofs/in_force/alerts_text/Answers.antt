use Rattle.std.proofs.Common.{length, refl}
use Rattle.run_rows.specs.follow_engine.Entities.{entities_held}
use Rattle.run_alerts.proofs.Given.{text_is}
use Rattle.run_alerts.proofs.in_force.alerts_text.Goals as goal

pub returns-clause-text : goal.returns-clause-text
returns-clause-text c =
    text_is c.args.moment c.args.query.now (entities_held c.args.engine.now.feeds) c.in_ok-view.view c.in_ok-in_force.in_force c.as_slice-keys.result.now (length c.as_slice-keys.result.now) c.next_change.result c.in_ok-text.text.items
    c.push_sum.new.text.items c.in_ok-view.ensures.held c.in_ok-in_force.ensures c.as_slice-keys.ensures refl c.in_ok-text.ensures c.next_change.ensures c.in_ok-push_sum.ensures
