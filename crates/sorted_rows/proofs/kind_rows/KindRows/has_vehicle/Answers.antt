use Rattle.std.proofs.Common.{sym, subst, ◌∙◌}
use Rattle.sorted_rows.specs.ByKey.{Sorts}
use Rattle.sorted_rows.specs.Rows.{holder_cmp, holder_of, of_kind}
use Rattle.sorted_rows.proofs.Parts.{has_vehicle_is}
use Rattle.sorted_rows.proofs.kind_rows.KindRows.has_vehicle.Goals as goal

pub returns : goal.returns
returns c k rs s = c.has_start.ensures (of_kind k (λ r. holder_of r.key r.vehicle) rs) (subst (Sorts holder_cmp (of_kind k (λ r. holder_of r.key r.vehicle) rs)) (sym c.as_slice.ensures.value) s.keys) ∙ has_vehicle_is k rs c.args.vehicle
