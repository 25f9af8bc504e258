use Rattle.engine_laws.proofs.Proved.{next_numbers}
use Rattle.engine_laws.proofs.laws.next_numbers.Goals as goal

pub returns : goal.returns
returns c = next_numbers
