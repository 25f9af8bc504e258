use Rattle.std.proofs.Common.{◌∙◌, ap}
use Rattle.rule_table.specs.Pairs.{any_row}
use Rattle.pairing_rules.proofs.Seated.{kind-asked}
use Rattle.pairing_rules.proofs.pair_index.PairIndexPairView.any_row.Goals as goal

pub returns : goal.returns
returns c = c.any_of_kind.ensures ∙ kind-asked c.args.kind c.self.inside.seats.entries ∙ ap (λ rows. any_row rows c.args.kind) c.self.view_is
