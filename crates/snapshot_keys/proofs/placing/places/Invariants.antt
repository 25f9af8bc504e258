use Rattle.std.proofs.Common.{◌≡◌, ◌++◌, None, drop}
use Rattle.snapshot_keys.proofs.Walked.{last, walk}
use Rattle.snapshot_keys.proofs.placing.places.Given as goal

-- the places so far and those of the entities that are left are all
abbrev pub invariant-loop-entity : goal.invariant-loop-entity
invariant-loop-entity l = l.places.items ++ walk l.feed (last l.places.items) (drop l.entity-index l.entity-items) ≡ walk l.feed None l.entity-items
