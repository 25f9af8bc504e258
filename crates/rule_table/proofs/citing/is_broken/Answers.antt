use Rattle.std.proofs.Common.{[], ◌∙◌}
use Rattle.rule_table.specs.Asked.{place_value}
use Rattle.rule_table.proofs.Formed.{broken-cited}
use Rattle.rule_table.proofs.citing.is_broken.Goals as goal

pub returns : goal.returns
returns g c = c.is_broken_impl.ensures ∙ broken-cited (g.A.Answers.answers c.args.answers.now) (place_value c.args.place) c.args.atoms.now [] c.args.cites.now
