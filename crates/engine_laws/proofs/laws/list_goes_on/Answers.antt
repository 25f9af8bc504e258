use Rattle.engine_laws.proofs.Proved.{list_goes_on}
use Rattle.engine_laws.proofs.laws.list_goes_on.Goals as goal

pub returns : goal.returns
returns c = list_goes_on
