use Rattle.row_changes.proofs.Paired.{paired}
use Rattle.row_changes.proofs.laws.paired_keys_are.Goals as goal

pub returns : goal.returns
returns c = paired
