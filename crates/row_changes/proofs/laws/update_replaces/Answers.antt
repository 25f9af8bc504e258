use Rattle.row_changes.proofs.Replaced.{update}
use Rattle.row_changes.proofs.laws.update_replaces.Goals as goal

pub returns : goal.returns
returns c = update
