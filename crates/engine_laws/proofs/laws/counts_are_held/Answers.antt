use Rattle.engine_laws.proofs.Proved.{counts_are_held}
use Rattle.engine_laws.proofs.laws.counts_are_held.Goals as goal

pub returns : goal.returns
returns c = counts_are_held
