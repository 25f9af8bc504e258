use Rattle.std.proofs.Common.{◌≡◌, Bool, drop}
use Rattle.std.specs.List.{list_all}
use Rattle.feed_values.specs.declared.entity_selector.EntitySelector.{EntitySelector}
use Rattle.feed_values.specs.Views.{entity_selector_value}
use Rattle.timetable.specs.Lookups.{tables_in}
use Rattle.timetable_agree.specs.Agree.{same_named_trip}
use Rattle.timetable_agree.specs.Named.{by_selector}
use Rattle.timetable_agree.proofs.comparison.Comparison.same_selected_trips.Given as goal

-- what is left decides
abbrev pub invariant-loop-selector : goal.invariant-loop-selector
invariant-loop-selector l =
    let p : EntitySelector → Bool = λ s. same_named_trip (tables_in l.fn.self.before.now) (tables_in l.fn.self.after.now) (by_selector (entity_selector_value s)) in
    record {
      left : list_all p (drop l.selector-index l.selectors) ≡ list_all p l.selectors;
      before : l.self.before.now ≡ l.fn.self.before.now;
      after : l.self.after.now ≡ l.fn.self.after.now;
    }
