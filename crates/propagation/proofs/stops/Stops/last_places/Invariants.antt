use Rattle.std.proofs.Common.{◌≡◌, ◌<◌, ℕ, Some, slice_get, bytes_eq}
use Rattle.std.specs.HashMap.{get_by}
use Rattle.propagation.specs.Stops.{Reaches, Stop, stops_in}
use Rattle.propagation.proofs.stops.Stops.last_places.Given as goal

-- the stops so far are reached
abbrev pub invariant-loop-place : goal.invariant-loop-place
invariant-loop-place l = (place : ℕ) (stop : Stop) → place < l.place → slice_get (stops_in l.self) place ≡ Some stop
    → Reaches place (get_by (λ k. bytes_eq stop.stop k.now) l.last)
