use Rattle.std.proofs.Common.{◌≡◌, length, drop}
use Rattle.std.specs.Cmp.Lexicographic.{pointwise}
use Rattle.timetable.specs.Lookups.{tables_in}
use Rattle.timetable_agree.specs.Alike.{same_stop_time}
use Rattle.timetable_agree.proofs.trips.same_stop_times.Given as goal

-- what is left decides
abbrev pub invariant-loop-i : goal.invariant-loop-i
invariant-loop-i l =
    let same = same_stop_time (tables_in l.old).stop_times.stops (tables_in l.new).stop_times.stops in
    record {
      left : pointwise same (drop l.i l.before) (drop l.i l.after) ≡ pointwise same l.before l.after;
      lengths : length l.before ≡ length l.after;
      all : l.i-end ≡ length l.before;
    }
