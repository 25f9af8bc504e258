use Rattle.engine_laws.proofs.Peaking.{peaks_raise}
use Rattle.engine_laws.proofs.laws.peaks_raise.Goals as goal

pub returns : goal.returns
returns c = peaks_raise
