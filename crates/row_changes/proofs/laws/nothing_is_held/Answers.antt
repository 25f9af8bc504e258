use Rattle.row_changes.proofs.Replaced.{nothing_held}
use Rattle.row_changes.proofs.laws.nothing_is_held.Goals as goal

pub returns : goal.returns
returns c = nothing_held
