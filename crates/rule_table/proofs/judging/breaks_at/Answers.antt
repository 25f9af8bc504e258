use Rattle.std.proofs.Common.{◌≡◌, [], false}
use Rattle.rule_table.specs.declared.place.Place.TheVariants as place
use Rattle.rule_table.specs.Cited.{cited, do_break}
use Rattle.rule_table.specs.Rows.{cites_at, test_at}
use Rattle.rule_table.proofs.Formed.{unbroken}
use Rattle.rule_table.proofs.judging.breaks_at.Goals as goal

pub returns : goal.returns
returns g c h =
    let at = place.Entity c.args.key.now c.args.path in
    let u : do_break at (test_at c.args.rule at) (cited (g.A.Answers.answers c.args.answers.now) at [] (cites_at c.args.rule at)) ≡ false = cc (h, c.is_broken.ensures, c.cites_at.ensures.cites, c.test_at.ensures) in
    unbroken c.args.rule (g.A.Answers.answers c.args.answers.now) at u
