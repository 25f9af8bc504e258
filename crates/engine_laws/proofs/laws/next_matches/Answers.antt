use Rattle.engine_laws.proofs.Proved.{next_matches}
use Rattle.engine_laws.proofs.laws.next_matches.Goals as goal

pub returns : goal.returns
returns c = next_matches
