use Rattle.std.proofs.Common.{◌≡◌, ◌++◌}
use Rattle.follow_engine.specs.Entities.{entities_held}
use Rattle.alert_terms.specs.InForce.{alerts_in}
use Rattle.alert_view.proofs.view.AlertView.new.Given as goal

-- the alerts that were taken, and those of the entities that are left, are all
abbrev pub invariant-loop-key : goal.invariant-loop-key
invariant-loop-key l = l.alerts ++ alerts_in l.key-iterator ≡ alerts_in (entities_held l.engine.feeds)
