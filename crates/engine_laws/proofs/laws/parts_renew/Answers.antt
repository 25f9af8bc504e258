use Rattle.engine_laws.proofs.Proved.{parts_renew}
use Rattle.engine_laws.proofs.laws.parts_renew.Goals as goal

pub returns : goal.returns
returns c = parts_renew
