use Rattle.part_laws.proofs.Stays.{paired_stays}
use Rattle.part_laws.proofs.laws.paired_part_stays.Goals as goal

pub returns : goal.returns
returns g c =
    paired_stays (g.R.PairRule.findings c.args._rule.now) (record { agree = g.met.R.PairRule.agree c.args._rule.now; none = g.met.R.PairRule.none c.args._rule.now })
