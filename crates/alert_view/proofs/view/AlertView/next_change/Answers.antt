use Rattle.std.proofs.Common.{◌∙◌, ap, nat_lt, None}
use Rattle.std.specs.List.{filter}
use Rattle.alert_terms.specs.InForce.{bounds_in, earliest}
use Rattle.alert_terms.proofs.Least.{next_more}
use Rattle.alert_view.proofs.view.AlertView.next_change.Goals as goal

-- one alert more
pub loop-alert-preserved : goal.loop-alert-preserved
loop-alert-preserved c =
    next_more bounds_in None c.args.moment c.as_slice-alert-items.result.now c.loop-alert.alert-index c.alert-item.result c.loop-alert.next c.next_change-next.result c.loop-alert-test.true c.loop-alert.invariant
    (c.next_change-next.ensures ∙ ap (λ a. earliest c.loop-alert.next (filter (nat_lt c.args.moment) (bounds_in a))) c.alert-item.is)
