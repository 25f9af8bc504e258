use Rattle.engine_laws.proofs.Proved.{none_is_lost}
use Rattle.engine_laws.proofs.laws.none_is_lost.Goals as goal

pub returns : goal.returns
returns c = none_is_lost
