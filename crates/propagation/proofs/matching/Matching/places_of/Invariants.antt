use Rattle.std.proofs.Common.{◌≡◌, ◌≤◌, ℕ, length}
use Rattle.propagation.specs.Matching.{StandsAfter}
use Rattle.propagation.specs.Stops.{stops_in}
use Rattle.propagation.proofs.MatchLemmas.{EachMatch}
use Rattle.propagation.proofs.matching.Matching.places_of.Given as goal

-- the updates so far are matched, and the next may match the stops from a place on
abbrev pub invariant-loop-update : goal.invariant-loop-update
invariant-loop-update l = record {
  size : length l.places.items ≡ l.update-index;
  each : EachMatch (stops_in l.stops) l.updates l.places.items;
  after : (j : ℕ) → l.from ≤ j → StandsAfter l.places.items j;
  least : (j : ℕ) → StandsAfter l.places.items j → l.from ≤ j;
}
