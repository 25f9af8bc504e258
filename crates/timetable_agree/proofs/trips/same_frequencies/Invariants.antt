use Rattle.std.proofs.Common.{◌≡◌, length, drop}
use Rattle.std.specs.Cmp.Lexicographic.{pointwise}
use Rattle.timetable_agree.specs.Alike.{same_frequency}
use Rattle.timetable_agree.proofs.trips.same_frequencies.Given as goal

-- what is left decides
abbrev pub invariant-loop-i : goal.invariant-loop-i
invariant-loop-i l = record {
  left : pointwise same_frequency (drop l.i l.before) (drop l.i l.after) ≡ pointwise same_frequency l.before l.after;
  lengths : length l.before ≡ length l.after;
  all : l.i-end ≡ length l.before;
}
