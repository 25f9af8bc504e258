use Rattle.std.proofs.Common.{sym, ◌∙◌, ap}
use Rattle.std.specs.Prelude.{option_and_then}
use Rattle.std.specs.BTreeMap.{get_by_text}
use Rattle.rule_table.specs.Pairs.{first_vehicle}
use Rattle.pairing_rules.specs.Seats.{rows_of}
use Rattle.pairing_rules.specs.Slots.{vehicle_in}
use Rattle.pairing_rules.proofs.Asked.{first-vehicle-asked, first-vehicle-unasked}
use Rattle.pairing_rules.proofs.pair_index.PairIndexPairView.first_vehicle.Goals as goal

pub returns-in-Some-first_at : goal.returns-in-Some-first_at
returns-in-Some-first_at c =
    c.vehicle.ensures ∙ ap (option_and_then vehicle_in) c.in-Some-first_at.ensures ∙ first-vehicle-asked (rows_of c.self.inside.seats.entries) (get_by_text c.self.inside.trips.numbers) (get_by_text c.self.inside.vehicles.numbers) c.self.inside.paired c.self.inside.unpaired c.self.inside.by_vehicle c.self.invariant.1 c.self.inside.trips.last c.self.inside.vehicles.last c.self.inside.trips.apart c.self.inside.vehicles.apart c.args.trip.now c.in-Some.number (sym c.in-Some.ensures) c.args.kind
    ∙ ap (λ rows. first_vehicle rows c.args.kind c.args.trip.now) c.self.view_is

pub returns-in-None-first_at : goal.returns-in-None-first_at
returns-in-None-first_at c =
    ap (option_and_then vehicle_in) c.in-None-first_at.ensures ∙ first-vehicle-asked (rows_of c.self.inside.seats.entries) (get_by_text c.self.inside.trips.numbers) (get_by_text c.self.inside.vehicles.numbers) c.self.inside.paired c.self.inside.unpaired c.self.inside.by_vehicle c.self.invariant.1 c.self.inside.trips.last c.self.inside.vehicles.last c.self.inside.trips.apart c.self.inside.vehicles.apart c.args.trip.now c.in-Some.number (sym c.in-Some.ensures) c.args.kind
    ∙ ap (λ rows. first_vehicle rows c.args.kind c.args.trip.now) c.self.view_is

pub returns-in-None : goal.returns-in-None
returns-in-None c =
    sym (first-vehicle-unasked (rows_of c.self.inside.seats.entries) (get_by_text c.self.inside.trips.numbers) (get_by_text c.self.inside.vehicles.numbers) c.self.inside.paired c.self.inside.unpaired c.self.inside.by_vehicle c.self.invariant.1 c.self.inside.trips.last c.self.inside.vehicles.last c.self.inside.trips.apart c.self.inside.vehicles.apart c.args.trip.now (sym c.in-None.ensures) c.args.kind)
    ∙ ap (λ rows. first_vehicle rows c.args.kind c.args.trip.now) c.self.view_is
