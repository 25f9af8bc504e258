use Rattle.evidence.proofs.Decided.{does_break_is}
use Rattle.evidence.proofs.laws.does_break_is_breaks.Goals as goal

pub returns : goal.returns
returns c = does_break_is
