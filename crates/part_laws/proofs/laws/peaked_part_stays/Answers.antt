use Rattle.part_laws.proofs.Stays.{peaked_stays}
use Rattle.part_laws.proofs.laws.peaked_part_stays.Goals as goal

pub returns : goal.returns
returns g c = peaked_stays (g.R.PeakRule.findings c.args._rule.now) (record { same = g.met.R.PeakRule.same c.args._rule.now })
