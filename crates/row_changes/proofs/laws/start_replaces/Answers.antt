use Rattle.row_changes.proofs.Replaced.{start}
use Rattle.row_changes.proofs.laws.start_replaces.Goals as goal

pub returns : goal.returns
returns c = start
