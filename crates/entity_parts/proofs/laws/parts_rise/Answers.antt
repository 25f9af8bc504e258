use Rattle.entity_parts.specs.Rising.{parts_rise}
use Rattle.entity_parts.proofs.laws.parts_rise.Goals as goal

pub returns : goal.returns
returns c = parts_rise
