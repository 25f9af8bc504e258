use Rattle.engine_laws.proofs.Pairing.{pairing_stays}
use Rattle.engine_laws.proofs.laws.pairing_stays.Goals as goal

pub returns : goal.returns
returns c = pairing_stays
