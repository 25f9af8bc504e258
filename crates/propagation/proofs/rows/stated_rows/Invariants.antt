use Rattle.std.proofs.Common.{◌≡◌, ◌++◌, drop}
use Rattle.propagation.specs.Rows.{stated_from}
use Rattle.propagation.proofs.rows.stated_rows.Given as goal

-- with the rows of what is left they are the rows of all
abbrev pub invariant-loop-index : goal.invariant-loop-index
invariant-loop-index l = l.rows.items ++ stated_from l.index (drop l.index l.updates) ≡ stated_from 0 l.updates
