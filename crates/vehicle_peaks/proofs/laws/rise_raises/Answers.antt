use Rattle.vehicle_peaks.proofs.Peaks.{rise-raises}
use Rattle.vehicle_peaks.proofs.laws.rise_raises.Goals as goal

pub returns : goal.returns
returns c = rise-raises
