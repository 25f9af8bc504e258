use Rattle.std.proofs.Common.{◌≡◌, take, nat_lt, None}
use Rattle.std.specs.List.{filter, flat_map}
use Rattle.alert_terms.specs.InForce.{bounds_in, earliest}
use Rattle.alert_view.proofs.view.AlertView.next_change.Given as goal

abbrev pub invariant-loop-alert : goal.invariant-loop-alert
invariant-loop-alert l = l.next ≡ earliest None (filter (nat_lt l.moment) (flat_map bounds_in (take l.alert-index l.alert-items)))
