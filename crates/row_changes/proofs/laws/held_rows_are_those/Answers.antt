use Rattle.row_changes.proofs.Alike.{those}
use Rattle.row_changes.proofs.laws.held_rows_are_those.Goals as goal

pub returns : goal.returns
returns c = those
