-- Where the columns stand.
use Rattle.std.specs.Prelude.{◌≡◌, ℕ, List, Option, None, slice_index_or}
use Rattle.csv_records.specs.Records.{Record}
use Rattle.schedule_rows.specs.Columns.{name_of, number_of}
use Rattle.schedule_rows.specs.Fields.{place_of}
use Rattle.schedule_rows.specs.declared.column.Column.{Column}

-- by the number of each column stands its place in the header
abbrev pub HasPlaces : Record → List (Option ℕ) → Type 0
HasPlaces header places = (column : Column) → slice_index_or places (number_of column) None ≡ place_of (name_of column) header
