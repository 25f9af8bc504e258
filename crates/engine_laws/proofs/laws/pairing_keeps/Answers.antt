use Rattle.engine_laws.proofs.Pairing.{pairing_keeps}
use Rattle.engine_laws.proofs.laws.pairing_keeps.Goals as goal

pub returns : goal.returns
returns c = pairing_keeps
