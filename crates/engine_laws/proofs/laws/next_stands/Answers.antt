use Rattle.engine_laws.proofs.Proved.{next_stands}
use Rattle.engine_laws.proofs.laws.next_stands.Goals as goal

pub returns : goal.returns
returns c = next_stands
