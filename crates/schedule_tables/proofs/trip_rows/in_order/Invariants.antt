use Rattle.std.proofs.Common.{◌≡◌, ◌++◌, map}
use Rattle.schedule_tables.proofs.trip_rows.in_order.Given as goal

-- the stop times so far, and those that are left
abbrev pub invariant-loop-time : goal.invariant-loop-time
invariant-loop-time l = l.times.items ++ map (λ entry. entry.1) l.time-iterator ≡ map (λ entry. entry.1) l.fn.all.entries
