use Rattle.part_laws.proofs.FourParts as parts
use Rattle.part_laws.proofs.laws.merged_opens.Goals as goal

pub returns : goal.returns
returns c = parts.merged_opens
