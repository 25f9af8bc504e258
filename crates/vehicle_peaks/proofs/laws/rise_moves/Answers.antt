use Rattle.vehicle_peaks.proofs.Peaks.{rise-moves}
use Rattle.vehicle_peaks.proofs.laws.rise_moves.Goals as goal

pub returns : goal.returns
returns c = rise-moves
