use Rattle.std.proofs.Common.{◌≡◌, Result, Ok, IfOk, subst}
use Rattle.timetable.specs.Timetables.{KnowsKinds, KnowsTwice}
use Rattle.timetable.proofs.timetable.Timetable.with_tables.Goals as goal

-- what is said of an answer holds for its value
known : {V E : Type 0} (P : V → Type 0) (answer : Result V E) (value : V) → IfOk answer P → answer ≡ Ok value → P value
known P answer value said is = subst (λ a. IfOk a P) is said

pub invariant_of-held : goal.invariant_of-held
invariant_of-held c =
    let facts = c.in_ok-kept.ensures in
    let trips = c.into_numbered-trips.result in
    let stop_times = c.args.loaded.1.1.1.1.0 in
    rw facts.0 (record {
      have_stops = c.requires.stops;
      stops_differ = c.requires.differ;
      knows_twice = known (λ found. KnowsTwice trips stop_times found.0.items) _ _ c.found_by_number-found.ensures.twice facts.1;
      knows_kinds = known (λ found. KnowsKinds c.args.loaded.1.0 stop_times.stops found.1.items) _ _ c.found_by_number-found.ensures.kinds facts.1;
    })
