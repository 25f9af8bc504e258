use Rattle.part_laws.proofs.Stays.{local_stays}
use Rattle.part_laws.proofs.laws.local_part_stays.Goals as goal

pub returns : goal.returns
returns g c = local_stays (g.R.LocalRule.findings c.args._rule.now)
