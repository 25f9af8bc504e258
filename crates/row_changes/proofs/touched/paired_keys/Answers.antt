use Rattle.std.proofs.Common.{Bool, ◌&&◌, ◌||◌, ap, ◌∙◌, sym}
use Rattle.std.specs.BTreeSet.{contains}
use Rattle.std.specs.BTreeMap.{is_at}
use Rattle.std.specs.List.{list_any}
use Rattle.std.specs.Ordering.{eq_by_cmp}
use Rattle.rule_table.specs.declared.kind.Kind.TheVariants.{TripUpdate, Vehicle}
use Rattle.rule_table.specs.Order.{key_cmp, same_key}
use Rattle.rule_table.specs.Pairs.{is_of}
use Rattle.rule_table.proofs.SameKeys.{same-key}
use Rattle.rule_table.proofs.SameTests.{any-same}
use Rattle.rule_history.specs.Changed.{differ}
use Rattle.row_changes.specs.Ids.{has_given}
use Rattle.row_changes.specs.Touched.{has_turned}
use Rattle.row_changes.proofs.Named.{all-named}
use Rattle.row_changes.proofs.TextSets.{rows-given}
use Rattle.row_changes.proofs.touched.paired_keys.Goals as goal

pub returns-clause-paired : goal.returns-clause-paired
returns-clause-paired c = λ key.
    let rows = c.args.pairs.now in
    let ids = c.args.ids.now in
    let before = c.args.before in
    let any_update : Bool = list_any (λ r. is_of TripUpdate r && same_key key r.key) rows in
    let any_vehicle : Bool = list_any (λ r. is_of Vehicle r && same_key key r.key) rows in
    let trips : Bool = list_any (λ r. has_given ids.trips r.trip && same_key key r.key) rows in
    let vehicles : Bool = list_any (λ r. has_given ids.vehicles r.vehicle && same_key key r.key) rows in
    ap (list_any (same_key key)) c.in_ok-found.ensures.all ∙ sym (any-same (eq_by_cmp key_cmp key) (same_key key) (same-key key) _)
    ∙ c.in_ok-put_kind-2.ensures key
    ∙ ap (λ b. b || (c.differ-updates.result && any_vehicle)) (c.in_ok-put_kind.ensures key
    ∙ ap (λ b. b || (c.differ-vehicles.result && any_update)) (c.in_ok-put_vehicles.ensures key
    ∙ ap (λ b. contains key_cmp c.put_trips.new.keys key || b) (rows-given ids.vehicles (λ r. r.vehicle) key rows)
    ∙ ap (λ b. b || vehicles) (c.in_ok-put_trips.ensures key ∙ ap (λ b. contains key_cmp c.new-keys.result key || b) (rows-given ids.trips (λ r. r.trip) key rows)
    ∙ ap (λ ks. list_any (is_at (key_cmp key)) ks || trips) c.new-keys.ensures.empty)))
    ∙ ap (λ b. (trips || vehicles || (b && any_update)) || (c.differ-updates.result && any_vehicle)) (c.differ-vehicles.ensures ∙ ap (differ before.vehicles) c.of-after.ensures.vehicles)
    ∙ ap (λ b. (trips || vehicles || (has_turned before rows Vehicle && any_update)) || (b && any_vehicle)) (c.differ-updates.ensures ∙ ap (differ before.updates) c.of-after.ensures.updates)
    ∙ all-named (λ r. has_given ids.trips r.trip) (λ r. has_given ids.vehicles r.vehicle) (has_turned before rows) key rows
