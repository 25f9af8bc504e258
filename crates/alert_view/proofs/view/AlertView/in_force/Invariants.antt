use Rattle.std.proofs.Common.{◌≡◌, take}
use Rattle.alert_terms.specs.InForce.{in_force}
use Rattle.alert_view.proofs.view.AlertView.in_force.Given as goal

abbrev pub invariant-loop-alert : goal.invariant-loop-alert
invariant-loop-alert l = l.keys ≡ in_force l.moment l.query (take l.alert-index l.alert-items)
