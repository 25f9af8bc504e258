use Rattle.std.proofs.Common.{◌||◌, ap, sym, subst, ◌∙◌}
use Rattle.sorted_rows.specs.ByKey.{Sorts, has_key}
use Rattle.sorted_rows.specs.Rows.{id_cmp, of_kind, trip_alone, vehicle_with}
use Rattle.sorted_rows.proofs.Parts.{has_trip_is}
use Rattle.sorted_rows.proofs.kind_rows.KindRows.has_trip.Goals as goal

pub returns-then-has : goal.returns-then-has
returns-then-has c k rs s =
    let vehicles = of_kind k (λ r. vehicle_with r.trip r.vehicle) rs in
    let lone = of_kind k (λ r. trip_alone r.trip r.vehicle) rs in
    let found = c.has.ensures vehicles (subst (Sorts id_cmp vehicles) (sym c.as_slice.ensures.value) s.vehicles) in
    c.if-has.true ∙ ap (λ b. b || has_key id_cmp lone c.args.trip) (sym c.if-has.true ∙ found) ∙ has_trip_is k rs c.args.trip

pub returns-else-has : goal.returns-else-has
returns-else-has c k rs s =
    let vehicles = of_kind k (λ r. vehicle_with r.trip r.vehicle) rs in
    let lone = of_kind k (λ r. trip_alone r.trip r.vehicle) rs in
    let none = c.has.ensures vehicles (subst (Sorts id_cmp vehicles) (sym c.as_slice.ensures.value) s.vehicles) in
    let found = c.has-else-has.ensures lone (subst (Sorts id_cmp lone) (sym c.as_slice-else-has.ensures.value) s.lone_trips) in
    found ∙ ap (λ b. b || has_key id_cmp lone c.args.trip) (sym c.if-has.false ∙ none) ∙ has_trip_is k rs c.args.trip
