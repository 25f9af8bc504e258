use Rattle.entity_index.proofs.Tested.{fresh_tested}
use Rattle.entity_index.proofs.laws.fresh_are_tested.Goals as goal

pub returns : goal.returns
returns c = fresh_tested
