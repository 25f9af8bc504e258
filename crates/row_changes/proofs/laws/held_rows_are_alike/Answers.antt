use Rattle.row_changes.proofs.Alike.{alike}
use Rattle.row_changes.proofs.laws.held_rows_are_alike.Goals as goal

pub returns : goal.returns
returns c = alike
