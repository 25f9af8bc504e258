use Rattle.entity_parts.proofs.Whole.{parts_are_the_whole}
use Rattle.entity_parts.proofs.laws.parts_are_the_whole.Goals as goal

pub returns : goal.returns
returns c = parts_are_the_whole
