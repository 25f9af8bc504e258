use Rattle.std.proofs.Common.{◌≡◌, ◌<◌, ◌^◌, drop}
use Rattle.csv.specs.Records.{fields_of}
use Rattle.schedule_rows.specs.Cells.{cells_of}
use Rattle.schedule_rows.specs.Items.{weekdays_from}
use Rattle.schedule_rows.proofs.service_row.weekdays.Given as goal

-- what is left goes on from what was read, and the bits so far stay below the next one
abbrev pub invariant-loop-day : goal.invariant-loop-day
invariant-loop-day l = record {
  rest : weekdays_from (drop l.day-index l.days) l.bit l.done (cells_of l.cells.header.now (fields_of l.cells.row.now))
      ≡ weekdays_from l.days 1 0 (cells_of l.cells.header.now (fields_of l.cells.row.now));
  bit : l.bit ≡ 2 ^ l.day-index;
  below : l.done < l.bit;
}
