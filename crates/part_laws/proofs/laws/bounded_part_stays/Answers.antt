use Rattle.part_laws.proofs.Bounded.{bounded_stays}
use Rattle.part_laws.proofs.laws.bounded_part_stays.Goals as goal

pub returns : goal.returns
returns g c =
    let r = c.args._rule.now in
    bounded_stays (g.R.BoundRule.findings r) (g.R.Rules.rules r) (g.R.BoundRule.bound r) (record { own = g.met.R.BoundRule.own r; exact = g.met.R.BoundRule.exact r; at = g.met.R.BoundRule.at r })
