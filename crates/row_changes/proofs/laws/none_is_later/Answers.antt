use Rattle.row_changes.proofs.Over.{none_later}
use Rattle.row_changes.proofs.laws.none_is_later.Goals as goal

pub returns : goal.returns
returns c = none_later
