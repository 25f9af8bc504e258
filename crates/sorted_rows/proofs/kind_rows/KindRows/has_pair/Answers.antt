use Rattle.std.proofs.Common.{sym, subst, ◌∙◌}
use Rattle.sorted_rows.specs.ByKey.{Sorts}
use Rattle.sorted_rows.specs.Rows.{pair_cmp, pair_of, of_kind}
use Rattle.sorted_rows.proofs.Parts.{has_pair_is}
use Rattle.sorted_rows.proofs.kind_rows.KindRows.has_pair.Goals as goal

pub returns : goal.returns
returns c k rs s = c.has.ensures (of_kind k (λ r. pair_of r.trip r.vehicle) rs) (subst (Sorts pair_cmp (of_kind k (λ r. pair_of r.trip r.vehicle) rs)) (sym c.as_slice.ensures.value) s.pairs) ∙ has_pair_is k rs c.args.trip c.args.vehicle
