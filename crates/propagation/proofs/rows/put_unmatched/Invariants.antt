use Rattle.std.proofs.Common.{◌≡◌, ◌++◌, drop}
use Rattle.propagation.specs.Rows.{unmatched_from}
use Rattle.propagation.proofs.rows.put_unmatched.Given as goal

-- with the rows of what is left they are the rows of all
abbrev pub invariant-loop-index : goal.invariant-loop-index
invariant-loop-index l = l.rows.items ++ unmatched_from l.index (drop l.index l.updates) (drop l.index l.places) ≡ l.initial.rows.items ++ unmatched_from 0 l.updates l.places
