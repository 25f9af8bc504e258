use Rattle.std.proofs.Common.{◌≡◌, drop}
use Rattle.trip_calendar.specs.Trips.{first_given}
use Rattle.trip_calendar.proofs.trips.first_given.Given as goal

-- the first given time is in what is left
abbrev pub invariant-loop-time : goal.invariant-loop-time
invariant-loop-time l = first_given (drop l.time-index l.times) ≡ first_given l.times
