use Rattle.vehicle_peaks.proofs.Peaks.{rises-raise}
use Rattle.vehicle_peaks.proofs.laws.rises_raise.Goals as goal

pub returns : goal.returns
returns c = rises-raise
