use Rattle.std.proofs.Common.{◌≡◌, ◌<◌, ℕ, false, get_or, vec_len}
use Rattle.schedule_tables.specs.Maps.{Text}
use Rattle.schedule_tables.specs.Numbers.{HasNumber}
use Rattle.timetable.specs.Timetables.{trip_times, visits_twice}
use Rattle.timetable.proofs.twice.trips_that_return.Given as goal

-- the trips of smaller numbers are known
abbrev pub invariant-loop-number : goal.invariant-loop-number
invariant-loop-number l = record {
  size : vec_len l.twice ≡ l.number;
  known : (n : ℕ) → n < l.number → (id : Text) → HasNumber l.trips n id → get_or l.twice.items n false ≡ visits_twice (trip_times l.times id);
}
