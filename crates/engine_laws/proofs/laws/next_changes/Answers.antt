use Rattle.engine_laws.proofs.Proved.{next_changes}
use Rattle.engine_laws.proofs.laws.next_changes.Goals as goal

pub returns : goal.returns
returns c = next_changes
