use Rattle.part_laws.proofs.Bounded.{none_found}
use Rattle.part_laws.proofs.laws.none_is_bounded.Goals as goal

pub returns : goal.returns
returns g c =
    let r = c.args._rule.now in
    none_found (g.R.BoundRule.findings r) (g.R.Rules.rules r) (g.R.BoundRule.bound r) (record { own = g.met.R.BoundRule.own r; exact = g.met.R.BoundRule.exact r; at = g.met.R.BoundRule.at r })
