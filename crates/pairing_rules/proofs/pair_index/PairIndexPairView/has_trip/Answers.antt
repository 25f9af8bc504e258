use Rattle.std.proofs.Common.{sym, ◌∙◌, ap}
use Rattle.std.specs.BTreeMap.{get_by_text}
use Rattle.rule_table.specs.Pairs.{has_trip}
use Rattle.pairing_rules.specs.Seats.{rows_of}
use Rattle.pairing_rules.proofs.Asked.{trip-asked, trip-unasked}
use Rattle.pairing_rules.proofs.pair_index.PairIndexPairView.has_trip.Goals as goal

pub returns-in-Some : goal.returns-in-Some
returns-in-Some c =
    c.has_either.ensures ∙ trip-asked (rows_of c.self.inside.seats.entries) (get_by_text c.self.inside.trips.numbers) (get_by_text c.self.inside.vehicles.numbers) c.self.inside.paired c.self.inside.unpaired c.self.inside.by_vehicle c.self.invariant.1 c.self.inside.trips.last c.self.inside.vehicles.last c.self.inside.trips.apart c.self.inside.vehicles.apart c.args.trip.now c.in-Some.number (sym c.in-Some.ensures) c.args.kind
    ∙ ap (λ rows. has_trip rows c.args.kind c.args.trip.now) c.self.view_is

pub returns-in-None : goal.returns-in-None
returns-in-None c =
    sym (trip-unasked (rows_of c.self.inside.seats.entries) (get_by_text c.self.inside.trips.numbers) (get_by_text c.self.inside.vehicles.numbers) c.self.inside.paired c.self.inside.unpaired c.self.inside.by_vehicle c.self.invariant.1 c.self.inside.trips.last c.self.inside.vehicles.last c.self.inside.trips.apart c.self.inside.vehicles.apart c.args.trip.now (sym c.in-None.ensures) c.args.kind)
    ∙ ap (λ rows. has_trip rows c.args.kind c.args.trip.now) c.self.view_is
