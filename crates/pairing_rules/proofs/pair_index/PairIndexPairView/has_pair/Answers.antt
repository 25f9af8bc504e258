use Rattle.std.proofs.Common.{sym, ◌∙◌, ap}
use Rattle.std.specs.BTreeMap.{get_by_text}
use Rattle.rule_table.specs.Pairs.{has_pair}
use Rattle.pairing_rules.specs.Seats.{rows_of}
use Rattle.pairing_rules.proofs.Asked.{pair-no-trip, pair-no-vehicle}
use Rattle.pairing_rules.proofs.Seated.{pair-asked}
use Rattle.pairing_rules.proofs.pair_index.PairIndexPairView.has_pair.Goals as goal

pub returns-in-Some-number : goal.returns-in-Some-number
returns-in-Some-number c =
    let i = c.self.inside in
    c.any_of_pair.ensures ∙ pair-asked (get_by_text i.ids.numbers) (get_by_text i.trips.numbers) (get_by_text i.vehicles.numbers) i.ids.last i.trips.last i.vehicles.last i.ids.apart i.trips.apart i.vehicles.apart
    c.args.trip.now c.args.vehicle.now c.in-Some.first c.in-Some-number.second (sym c.in-Some.ensures) (sym c.in-Some-number.ensures) c.args.kind i.seats.entries c.self.invariant.0
    ∙ ap (λ rows. has_pair rows c.args.kind c.args.trip.now c.args.vehicle.now) c.self.view_is

pub returns-in-None-number : goal.returns-in-None-number
returns-in-None-number c =
    sym (pair-no-vehicle (rows_of c.self.inside.seats.entries) (get_by_text c.self.inside.trips.numbers) (get_by_text c.self.inside.vehicles.numbers) c.self.inside.paired c.self.inside.unpaired c.self.inside.by_vehicle c.self.invariant.1 c.self.inside.trips.last c.self.inside.vehicles.last c.self.inside.trips.apart c.self.inside.vehicles.apart c.args.trip.now c.args.vehicle.now (sym c.in-None-number.ensures) c.args.kind)
    ∙ ap (λ rows. has_pair rows c.args.kind c.args.trip.now c.args.vehicle.now) c.self.view_is

pub returns-in-None : goal.returns-in-None
returns-in-None c =
    sym (pair-no-trip (rows_of c.self.inside.seats.entries) (get_by_text c.self.inside.trips.numbers) (get_by_text c.self.inside.vehicles.numbers) c.self.inside.paired c.self.inside.unpaired c.self.inside.by_vehicle c.self.invariant.1 c.self.inside.trips.last c.self.inside.vehicles.last c.self.inside.trips.apart c.self.inside.vehicles.apart c.args.trip.now c.args.vehicle.now (sym c.in-None.ensures) c.args.kind)
    ∙ ap (λ rows. has_pair rows c.args.kind c.args.trip.now c.args.vehicle.now) c.self.view_is
