use Rattle.std.proofs.Common.{◌≡◌, ◌++◌}
use Rattle.schedule_tables.proofs.visits.settled.Given as goal

-- the trips so far, and those that are left
abbrev pub invariant-loop-id : goal.invariant-loop-id
invariant-loop-id l = l.settled.entries ++ l.id-iterator ≡ l.fn.trips.entries
