use Rattle.std.proofs.Common.{◌≡◌}
use Rattle.judging.specs.Seats.{seat_values}
use Rattle.judging.specs.Judged.{put_rows, vehicle_rows_of}
use Rattle.judging.proofs.rows.add_vehicles.Given as goal

-- the rows that are left put in
abbrev pub invariant-loop-key : goal.invariant-loop-key
invariant-loop-key l = put_rows l.index (vehicle_rows_of (seat_values l.key-iterator)) ≡ put_rows l.fn.index (vehicle_rows_of (seat_values l.seats.entries))
