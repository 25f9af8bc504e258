use Rattle.part_laws.proofs.Bounded as bounded
use Rattle.part_laws.proofs.laws.bounds_are_low.Goals as goal

pub returns : goal.returns
returns c = bounded.bounds_are_low
