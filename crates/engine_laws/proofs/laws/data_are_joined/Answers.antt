use Rattle.engine_laws.proofs.Proved.{data_are_joined}
use Rattle.engine_laws.proofs.laws.data_are_joined.Goals as goal

pub returns : goal.returns
returns c = data_are_joined
