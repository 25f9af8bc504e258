use Rattle.std.proofs.Common.{◌∙◌, Bool, sym, ap}
use Rattle.feed_values.specs.Views.{entity_value, entity_selector_value}
use Rattle.rule_table.specs.Judged.{update_of, alert_of}
use Rattle.rule_table.specs.Pairs.{vehicle_of}
use Rattle.timetable.specs.Lookups.{tables_in}
use Rattle.timetable_agree.specs.Agree.{same_named_trip}
use Rattle.timetable_agree.specs.Named.{Naming, by_update, by_vehicle, by_selector, selectors_of, stops_of}
use Rattle.timetable_agree.proofs.Walked.{all_items, same_trips}
use Rattle.timetable_agree.proofs.agreeing.trips_agree.Goals as goal

pub returns : goal.returns
returns c =
    let e = entity_value c.args.entity.now in
    let a = tables_in c.args.old.now in
    let b = tables_in c.args.new.now in
    let p : Naming → Bool = same_named_trip a b in
    let selectors = selectors_of (alert_of e) in
    same_trips a b (by_update (update_of e)) (by_vehicle (vehicle_of e)) selectors (stops_of (update_of e)) c.same_selected_trips.result
    (sym c.if-not-same_named_trip.false ∙ c.same_named_trip.ensures ∙ ap p c.of_update.ensures)
    (sym c.if-not-same_named_trip-2.false ∙ c.same_named_trip-2.ensures ∙ ap p c.of_vehicle.ensures)
    (all_items (λ s. p (by_selector s)) entity_selector_value c.selectors.result.now selectors c.same_selected_trips.result c.selectors.ensures c.same_selected_trips.ensures)
