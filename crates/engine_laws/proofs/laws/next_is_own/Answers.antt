use Rattle.engine_laws.proofs.Proved.{next_is_own}
use Rattle.engine_laws.proofs.laws.next_is_own.Goals as goal

pub returns : goal.returns
returns c = next_is_own
