use Rattle.std.proofs.Common.{◌∙◌, Bool, true, sym, ap}
use Rattle.feed_values.specs.Views.{entity_value, entity_selector_value, stop_time_update_value}
use Rattle.rule_table.specs.Judged.{update_of, alert_of}
use Rattle.rule_table.specs.Pairs.{vehicle_of}
use Rattle.timetable.specs.Lookups.{tables_in}
use Rattle.timetable_agree.specs.Agree.{same_others}
use Rattle.timetable_agree.specs.Named.{Naming, by_update, by_vehicle, by_selector, by_stop, selectors_of, stops_of}
use Rattle.timetable_agree.proofs.Walked.{all_items, other_selector, same_all}
use Rattle.timetable_agree.proofs.agreeing.others_agree.Goals as goal

pub returns-then-not-same_selectors : goal.returns-then-not-same_selectors
returns-then-not-same_selectors c =
    let e = entity_value c.args.entity.now in
    let p : Naming → Bool = same_others (tables_in c.args.old.now) (tables_in c.args.new.now) in
    let selectors = selectors_of (alert_of e) in
    other_selector p (by_update (update_of e)) (by_vehicle (vehicle_of e)) selectors (stops_of (update_of e))
    (sym c.if-not-same_others.false ∙ c.same_others.ensures ∙ ap p c.of_update.ensures)
    (sym c.if-not-same_others-2.false ∙ c.same_others-2.ensures ∙ ap p c.of_vehicle.ensures)
    (all_items (λ s. p (by_selector s)) entity_selector_value c.selectors.result.now selectors _ c.selectors.ensures (sym c.if-not-same_selectors.true ∙ c.same_selectors.ensures))

pub returns : goal.returns
returns c =
    let e = entity_value c.args.entity.now in
    let p : Naming → Bool = same_others (tables_in c.args.old.now) (tables_in c.args.new.now) in
    let selectors = selectors_of (alert_of e) in
    let updates = stops_of (update_of e) in
    same_all p (by_update (update_of e)) (by_vehicle (vehicle_of e)) selectors updates c.same_updates.result
    (sym c.if-not-same_others.false ∙ c.same_others.ensures ∙ ap p c.of_update.ensures)
    (sym c.if-not-same_others-2.false ∙ c.same_others-2.ensures ∙ ap p c.of_vehicle.ensures)
    (all_items (λ s. p (by_selector s)) entity_selector_value c.selectors.result.now selectors true c.selectors.ensures (sym c.if-not-same_selectors.false ∙ c.same_selectors.ensures))
    (all_items (λ s. p (by_stop s)) stop_time_update_value c.stops.result.now updates c.same_updates.result c.stops.ensures c.same_updates.ensures)
