use Rattle.propagation.specs.Stops.{stops_in}
use Rattle.propagation.proofs.WalkLemmas.{IsWalked}
use Rattle.propagation.proofs.walk.Walk.pass_all.Given as goal

abbrev pub invariant-loop-place : goal.invariant-loop-place
invariant-loop-place l =
    IsWalked l.zero l.updates l.matching.places.items (stops_in l.stops) l.fn.self.setters.items l.fn.self.rows.items l.place l.self.setters.items l.self.rows.items
