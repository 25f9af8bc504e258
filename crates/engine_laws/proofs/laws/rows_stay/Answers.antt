use Rattle.engine_laws.proofs.Proved.{rows_stay}
use Rattle.engine_laws.proofs.laws.rows_stay.Goals as goal

pub returns : goal.returns
returns c = rows_stay
