use Rattle.std.proofs.Common.{◌≡◌, ◌++◌, ◌∷◌, [], ◌≤◌, ◌-◌, length}
use Rattle.field_pieces.specs.Fronts.{IsFront}
use Rattle.field_pieces.proofs.front.go_on.Given as goal

abbrev pub invariant-loop-tag : goal.invariant-loop-tag
invariant-loop-tag l = record {
  front : IsFront l.bytes l.start (l.front.outer.items ++ l.front.number ∷ []) l.front.at;
  within : l.front.at ≤ length l.bytes;
}

abbrev pub decreases-loop-tag : goal.decreases-loop-tag
decreases-loop-tag l = length l.bytes - l.front.at
