use Rattle.std.proofs.Common.{sym, ◌∙◌, ap, ◌++◌, subst}
use Rattle.propagation.specs.Events.{events}
use Rattle.propagation.specs.Setters.{AreInOrder, event_setters}
use Rattle.propagation.specs.Stops.{stops_in}
use Rattle.propagation.proofs.SetterLemmas.{setters_ordered}
use Rattle.propagation.proofs.resolver.Resolver.scheduled.Goals as goal

pub new-requires-3-clause-in_order : goal.new-requires-3-clause-in_order
new-requires-3-clause-in_order c =
    let rest = event_setters (events _ (stops_in c.new-stops.result) c.as_slice-updates.result.now c.in_ok-matching.matching.places.items) in
    let is = c.in_ok-pass_all.ensures.setters ∙ ap (λ l. l ++ rest) c.in_ok-walk.ensures.setters in
    subst AreInOrder (sym is) (setters_ordered c.args.update.now.delay _ (stops_in c.new-stops.result) c.as_slice-updates.result.now c.in_ok-matching.matching.places.items)
