use Rattle.std.proofs.Common.{◌≡◌, ◌<◌, ℕ, length, take, None, get_or}
use Rattle.propagation.specs.Matching.{matcher}
use Rattle.propagation.proofs.matching.matchers.Given as goal

-- what the matches so far say
abbrev pub invariant-loop-index : goal.invariant-loop-index
invariant-loop-index l = record {
  size : length l.matchers.items ≡ l.count;
  agree : (place : ℕ) → place < l.count → get_or l.matchers.items place None ≡ matcher (take l.index l.places) place;
}
