use Rattle.judging.proofs.Joined.{groups_apart}
use Rattle.entity_parts.proofs.rules.PartRules.new.Goals as goal

pub new-requires-3 : goal.new-requires-3
new-requires-3 c = groups_apart
