use Rattle.std.proofs.Common.{◌≡◌, Bool, true, false, cond, [], List, Option, None, refl}
use Rattle.std.specs.Prelude.{unwrap_or}
use Rattle.std.specs.FinMap.{get, get-empty}
use Rattle.std.specs.Cmp.Lexicographic.{slice_cmp}
use Rattle.std.specs.Ordering.{nat_cmp}
use Rattle.timetable.specs.Lookups.{tables_in}
use Rattle.timetable.specs.declared.Frequency.{Frequency}
use Rattle.rule_history.specs.Answered.{trip_known}
use Rattle.rule_history.proofs.schedule.frequencies.Goals as goal

-- a trip has none where there are none, whether it is known or not
none_of : (known : Bool) (held : Option (List Frequency)) → held ≡ None → [] ≡ unwrap_or (cond known held None) []
none_of true held h = rw h refl
none_of false held h = refl

pub returns-then-not-has_frequencies : goal.returns-then-not-has_frequencies
returns-then-not-has_frequencies c =
    let trip = c.args.trip.now in
    let none : get (tables_in c.args.table.now).frequencies trip ≡ None = rw (c.has_frequencies.ensures.none c.if-not-has_frequencies.true) (get-empty (slice_cmp nat_cmp) trip) in
    none_of (trip_known (tables_in c.args.table.now) trip) (get (tables_in c.args.table.now).frequencies trip) none
