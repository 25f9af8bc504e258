use Rattle.entity_index.proofs.There.{fresh_there}
use Rattle.entity_index.proofs.laws.fresh_are_there.Goals as goal

pub returns : goal.returns
returns c = fresh_there
