use Rattle.row_changes.proofs.Replaced.{all}
use Rattle.row_changes.proofs.laws.all_is_replaced.Goals as goal

pub returns : goal.returns
returns c = all
