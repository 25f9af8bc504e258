use Rattle.std.proofs.Common.{ap, sym, subst, ◌∙◌}
use Rattle.std.specs.Prelude.{option_copied}
use Rattle.sorted_rows.specs.ByKey.{Sorts}
use Rattle.sorted_rows.specs.Rows.{id_cmp, vehicle_with, of_kind}
use Rattle.sorted_rows.proofs.Parts.{first_vehicle_is}
use Rattle.sorted_rows.proofs.kind_rows.KindRows.first_vehicle.Goals as goal

pub returns : goal.returns
returns c k rs s = ap option_copied (c.first.ensures (of_kind k (λ r. vehicle_with r.trip r.vehicle) rs) (subst (Sorts id_cmp (of_kind k (λ r. vehicle_with r.trip r.vehicle) rs)) (sym c.as_slice.ensures.value) s.vehicles)) ∙ first_vehicle_is k rs c.args.trip
