use Rattle.row_changes.proofs.Over.{over}
use Rattle.row_changes.proofs.laws.over_keys_are.Goals as goal

pub returns : goal.returns
returns c = over
