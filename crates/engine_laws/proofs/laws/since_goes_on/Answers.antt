use Rattle.engine_laws.proofs.Proved.{since_goes_on}
use Rattle.engine_laws.proofs.laws.since_goes_on.Goals as goal

pub returns : goal.returns
returns c = since_goes_on
