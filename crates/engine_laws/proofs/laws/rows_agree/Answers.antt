use Rattle.engine_laws.proofs.Proved.{rows_agree}
use Rattle.engine_laws.proofs.laws.rows_agree.Goals as goal

pub returns : goal.returns
returns c = rows_agree
