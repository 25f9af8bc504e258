use Rattle.std.proofs.Common.{◌≡◌, ◌<◌, ℕ, None, get_or, length}
use Rattle.csv.specs.Records.{fields_of}
use Rattle.schedule_rows.specs.Columns.{name_of}
use Rattle.schedule_rows.specs.Fields.{place_of}
use Rattle.schedule_rows.specs.declared.column.Column.TheVariants.{AgencyId}
use Rattle.schedule_rows.specs.declared.column.TheConstants.Column.{ALL}
use Rattle.schedule_rows.proofs.header.Header.new.Given as goal

-- the columns of smaller numbers have their places
abbrev pub invariant-loop-at : goal.invariant-loop-at
invariant-loop-at l = record {
  size : length l.places ≡ 25;
  placed : (k : ℕ) → k < l.at → get_or l.places k None ≡ place_of (name_of (get_or ALL k AgencyId)) (fields_of l.names);
}
