use Rattle.std.proofs.Common.{sym, ◌∙◌, ap}
use Rattle.std.specs.BTreeMap.{get_by_text}
use Rattle.rule_table.specs.Pairs.{has_vehicle}
use Rattle.pairing_rules.specs.Seats.{rows_of}
use Rattle.pairing_rules.proofs.Asked.{vehicle-asked, vehicle-unasked}
use Rattle.pairing_rules.proofs.pair_index.PairIndexPairView.has_vehicle.Goals as goal

pub returns-in-Some : goal.returns-in-Some
returns-in-Some c =
    c.has_at.ensures ∙ vehicle-asked (rows_of c.self.inside.seats.entries) (get_by_text c.self.inside.trips.numbers) (get_by_text c.self.inside.vehicles.numbers) c.self.inside.paired c.self.inside.unpaired c.self.inside.by_vehicle c.self.invariant.1 c.self.inside.trips.last c.self.inside.vehicles.last c.self.inside.trips.apart c.self.inside.vehicles.apart c.args.vehicle.now c.in-Some.number (sym c.in-Some.ensures) c.args.kind
    ∙ ap (λ rows. has_vehicle rows c.args.kind c.args.vehicle.now) c.self.view_is

pub returns-in-None : goal.returns-in-None
returns-in-None c =
    sym (vehicle-unasked (rows_of c.self.inside.seats.entries) (get_by_text c.self.inside.trips.numbers) (get_by_text c.self.inside.vehicles.numbers) c.self.inside.paired c.self.inside.unpaired c.self.inside.by_vehicle c.self.invariant.1 c.self.inside.trips.last c.self.inside.vehicles.last c.self.inside.trips.apart c.self.inside.vehicles.apart c.args.vehicle.now (sym c.in-None.ensures) c.args.kind)
    ∙ ap (λ rows. has_vehicle rows c.args.kind c.args.vehicle.now) c.self.view_is
