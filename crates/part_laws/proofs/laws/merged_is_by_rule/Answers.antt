use Rattle.part_laws.proofs.FourParts as parts
use Rattle.part_laws.proofs.laws.merged_is_by_rule.Goals as goal

pub returns : goal.returns
returns c = parts.merged_is_by_rule
