use Rattle.std.proofs.Common.{◌&&◌, ◌||◌, sym, ◌∙◌, ap}
use Rattle.std.specs.Prelude.{option_and_then}
use Rattle.std.specs.BTreeMap.{get_by_text}
use Rattle.std.specs.List.{list_any}
use Rattle.std.specs.Ordering.{eq_by_cmp}
use Rattle.std.specs.BTreeMap.{is_at}
use Rattle.rule_table.specs.Order.{key_cmp, same_key}
use Rattle.rule_table.specs.Pairs.{shares}
use Rattle.pairing_rules.specs.Rows.{pair_row}
use Rattle.pairing_rules.specs.Slots.{has_given_key}
use Rattle.pairing_rules.specs.Seats.{rows_of}
use Rattle.pairing_rules.proofs.Order.{same-key}
use Rattle.pairing_rules.proofs.Lists.{any-same}
use Rattle.pairing_rules.proofs.SharedKeys.{shared-keys}
use Rattle.pairing_rules.proofs.pair_index.PairIndex.naming.Goals as goal

pub returns-clause-named : goal.returns-clause-named
returns-clause-named c = λ key.
    let old = c.self.inside in
    let row = pair_row c.args.row.now in
    let trips = get_by_text old.trips.numbers in
    let vehicles = get_by_text old.vehicles.numbers in
    let trip = c.number_given-trip.ensures.number ∙ ap (option_and_then trips) c.given_text.ensures in
    let vehicle = c.number_given-vehicle.ensures.number ∙ ap (option_and_then vehicles) c.given_text-2.ensures in
    ap (list_any (same_key key)) c.in_ok-found.ensures.all ∙ sym (any-same (eq_by_cmp key_cmp key) (same_key key) (same-key key) _) ∙ c.in_ok-put_given_keys-3.ensures key
    ∙ ap (λ b. b || has_given_key old.by_vehicle c.number_given-vehicle.result key) (c.in_ok-put_given_keys-2.ensures key
    ∙ ap (λ b. b || has_given_key old.unpaired c.number_given-trip.result key) (c.in_ok-put_given_keys.ensures key ∙ ap (λ ks. list_any (is_at (key_cmp key)) ks || has_given_key old.paired c.number_given-trip.result key) c.new-keys.ensures.empty))
    ∙ ap (λ n. (has_given_key old.paired n key || has_given_key old.unpaired n key) || has_given_key old.by_vehicle c.number_given-vehicle.result key) trip
    ∙ ap (λ n. (has_given_key old.paired (option_and_then trips row.trip) key || has_given_key old.unpaired (option_and_then trips row.trip) key) || has_given_key old.by_vehicle n key) vehicle
    ∙ shared-keys (rows_of old.seats.entries) trips vehicles old.paired old.unpaired old.by_vehicle c.self.invariant.1 old.trips.last old.vehicles.last old.trips.apart old.vehicles.apart key row.trip row.vehicle
    ∙ ap (λ rows. list_any (λ r. shares row r && same_key key r.key) rows) c.self.view_is
