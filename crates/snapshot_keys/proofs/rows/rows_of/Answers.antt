use Rattle.std.proofs.lemmas.Grind.{merely}
use Rattle.snapshot_keys.proofs.rows.rows_of.Goals as goal

pub invariant_of-result : goal.invariant_of-result
invariant_of-result c = record { answers = merely (c.in_ok-sort.ensures _ c.in_ok-rows.ensures) }
