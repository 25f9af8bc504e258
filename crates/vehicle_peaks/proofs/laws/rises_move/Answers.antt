use Rattle.vehicle_peaks.proofs.Peaks.{rises-move}
use Rattle.vehicle_peaks.proofs.laws.rises_move.Goals as goal

pub returns : goal.returns
returns c = rises-move
