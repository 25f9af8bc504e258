use Rattle.part_laws.proofs.FourParts as parts
use Rattle.part_laws.proofs.laws.merged_renews.Goals as goal

pub returns : goal.returns
returns c = parts.merged_renews
