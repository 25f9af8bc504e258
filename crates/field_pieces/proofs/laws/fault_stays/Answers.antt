use Rattle.field_pieces.proofs.StaysLaws.{fault_stays}
use Rattle.field_pieces.proofs.laws.fault_stays.Goals as goal

pub returns : goal.returns
returns c = fault_stays
