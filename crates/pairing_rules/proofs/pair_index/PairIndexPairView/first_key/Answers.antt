use Rattle.std.proofs.Common.{sym, ◌∙◌, ap}
use Rattle.std.specs.Prelude.{option_and_then}
use Rattle.std.specs.BTreeMap.{get_by_text}
use Rattle.rule_table.specs.Pairs.{first_key}
use Rattle.pairing_rules.specs.Seats.{rows_of}
use Rattle.pairing_rules.specs.Slots.{key_in}
use Rattle.pairing_rules.proofs.Asked.{first-key-asked, first-key-unasked}
use Rattle.pairing_rules.proofs.pair_index.PairIndexPairView.first_key.Goals as goal

pub returns-in-Some-first_of_feed : goal.returns-in-Some-first_of_feed
returns-in-Some-first_of_feed c =
    c.key.ensures ∙ ap (option_and_then key_in) c.in-Some-first_of_feed.ensures ∙ first-key-asked (rows_of c.self.inside.seats.entries) (get_by_text c.self.inside.trips.numbers) (get_by_text c.self.inside.vehicles.numbers) c.self.inside.paired c.self.inside.unpaired c.self.inside.by_vehicle c.self.invariant.1 c.self.inside.trips.last c.self.inside.vehicles.last c.self.inside.trips.apart c.self.inside.vehicles.apart c.args.vehicle.now c.in-Some.number (sym c.in-Some.ensures) c.args.feed
    ∙ ap (λ rows. first_key rows c.args.feed c.args.vehicle.now) c.self.view_is

pub returns-in-None-first_of_feed : goal.returns-in-None-first_of_feed
returns-in-None-first_of_feed c =
    ap (option_and_then key_in) c.in-None-first_of_feed.ensures ∙ first-key-asked (rows_of c.self.inside.seats.entries) (get_by_text c.self.inside.trips.numbers) (get_by_text c.self.inside.vehicles.numbers) c.self.inside.paired c.self.inside.unpaired c.self.inside.by_vehicle c.self.invariant.1 c.self.inside.trips.last c.self.inside.vehicles.last c.self.inside.trips.apart c.self.inside.vehicles.apart c.args.vehicle.now c.in-Some.number (sym c.in-Some.ensures) c.args.feed
    ∙ ap (λ rows. first_key rows c.args.feed c.args.vehicle.now) c.self.view_is

pub returns-in-None : goal.returns-in-None
returns-in-None c =
    sym (first-key-unasked (rows_of c.self.inside.seats.entries) (get_by_text c.self.inside.trips.numbers) (get_by_text c.self.inside.vehicles.numbers) c.self.inside.paired c.self.inside.unpaired c.self.inside.by_vehicle c.self.invariant.1 c.self.inside.trips.last c.self.inside.vehicles.last c.self.inside.trips.apart c.self.inside.vehicles.apart c.args.vehicle.now (sym c.in-None.ensures) c.args.feed)
    ∙ ap (λ rows. first_key rows c.args.feed c.args.vehicle.now) c.self.view_is
