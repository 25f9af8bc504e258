use Rattle.std.proofs.Common.{◌≡◌, ◌<◌, ◌≤◌, ℕ, false, bytes_eq}
use Rattle.propagation.specs.Stops.{passes, stops_in}
use Rattle.propagation.proofs.stops.Stops.scan.Given as goal

-- no stop so far has the id
abbrev pub invariant-loop-place : goal.invariant-loop-place
invariant-loop-place l = (place : ℕ) → l.from ≤ place → place < l.place → passes (λ stop. bytes_eq l.id stop.stop) (stops_in l.self) place ≡ false
