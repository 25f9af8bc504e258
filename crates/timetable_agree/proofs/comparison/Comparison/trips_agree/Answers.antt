use Rattle.std.proofs.Common.{◌≡◌, ◌∙◌, Bool, true, sym, ap}
use Rattle.std.specs.List.{list_all}
use Rattle.std.proofs.lemmas.Result.{IfOk-weaker}
use Rattle.feed_values.specs.Views.{entity_value, entity_selector_value}
use Rattle.rule_table.specs.Judged.{update_of, alert_of}
use Rattle.rule_table.specs.Pairs.{vehicle_of}
use Rattle.timetable.specs.Lookups.{tables_in}
use Rattle.timetable_agree.specs.Agree.{same_named_trip}
use Rattle.timetable_agree.specs.Named.{Naming, named_value, by_update, by_vehicle, by_selector, selectors_of, stops_of}
use Rattle.timetable_agree.proofs.Walked.{all_items, same_trips}
use Rattle.timetable_agree.proofs.Remembered.{kept}
use Rattle.timetable_agree.proofs.comparison.Comparison.trips_agree.Goals as goal

pub returns-clause-same : goal.returns-clause-same
returns-clause-same c =
    let e = entity_value c.args.entity.now in
    let old = c.args.self.now.before.now in
    let new = c.args.self.now.after.now in
    let first = c.same_named_trip.new.self in
    let second = c.same_named_trip-2.new.self in
    let old_first : first.before.now ≡ old = c.same_named_trip.ensures.before in
    let new_first : first.after.now ≡ new = c.same_named_trip.ensures.after in
    let old_second : second.before.now ≡ old = c.same_named_trip-2.ensures.before ∙ old_first in
    let new_second : second.after.now ≡ new = c.same_named_trip-2.ensures.after ∙ new_first in
    let p : Naming → Bool = same_named_trip (tables_in old) (tables_in new) in
    let selectors = selectors_of (alert_of e) in
    let update : true ≡ p (by_update (update_of e)) = sym c.if-not-branch.false ∙ c.in_ok-same_named_trip.ensures.same ∙ ap p c.of_update.ensures in
    let vehicle : true ≡ p (by_vehicle (vehicle_of e)) =
    sym c.if-not-branch-2.false ∙ c.in_ok-same_named_trip-2.ensures.same
    ∙ kept (λ x y. same_named_trip (tables_in x) (tables_in y) (named_value c.of_vehicle.result)) first.before.now old first.after.now new old_first new_first ∙ ap p c.of_vehicle.ensures in
    IfOk-weaker c.same_selected_trips.result _ _
    (λ r h.
    same_trips (tables_in old) (tables_in new) (by_update (update_of e)) (by_vehicle (vehicle_of e)) selectors (stops_of (update_of e)) r update vehicle
    (all_items (λ s. p (by_selector s)) entity_selector_value c.selectors.result.now selectors r c.selectors.ensures
    (h
    ∙ kept (λ x y. list_all (λ s. same_named_trip (tables_in x) (tables_in y) (by_selector (entity_selector_value s))) c.selectors.result.now) second.before.now old second.after.now new old_second new_second)))
    c.same_selected_trips.ensures.same
