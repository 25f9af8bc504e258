-- The list of snapshots that are followed, and of timetables, as it stands in its file. (RFC 4180; what a row says, and the limits, are this profile's.)
use Rattle.std.specs.Prelude.{◌≤◌, ◌<◌, ℕ, ◌+◌, List, [], ◌∷◌, ◌++◌, length, nat_lt, Option, Some, None, Result, Ok, Err, if◌then◌else◌}
use Rattle.std.specs.List.{AllByRecursion}
use Rattle.csv_records.specs.Results.{then_with}
use Rattle.csv_records.specs.Records.{Record, records_of}
use Rattle.feed_list.specs.Rows.{row_of}
use Rattle.feed_list.specs.declared.row.ListRow.{ListRow}
use Rattle.feed_list.specs.declared.row.ListRow.TheVariants.{Snapshot, Timetable}
use Rattle.feed_list.specs.declared.fault.ListFault.{ListFault}
use Rattle.feed_list.specs.declared.fault.ListFault.TheVariants.{MissingFile, TooLarge}

-- the most bytes and the most rows that a list has
abbrev pub byte_limit : ℕ
byte_limit = 134217728

abbrev pub row_limit : ℕ
row_limit = 1000000

-- some rows before others, if there are others
abbrev pub with_front : List ListRow → Result (List ListRow) ListFault → Result (List ListRow) ListFault
with_front front (Ok rows) = Ok (front ++ rows)
with_front front (Err fault) = Err fault

-- the rows that the records are, or the first fault, where the first record counts as `number`
abbrev pub rows_from : ℕ → List Record → Result (List ListRow) ListFault
rows_from number [] = Ok []
rows_from number (fields ∷ records) = then_with (row_of number fields) (λ row. with_front (row ∷ []) (rows_from (number + 1) records))

-- the list of some records: its size comes first, and then the rows, which count from 1
abbrev pub list_of : List Record → Result (List ListRow) ListFault
list_of records = if nat_lt row_limit (length records) then Err TooLarge else rows_from 1 records

-- the list of a file that is held or not
abbrev pub list_in : Option (List ℕ) → Result (List ListRow) ListFault
list_in None = Err MissingFile
list_in (Some bytes) = if nat_lt byte_limit (length bytes) then Err TooLarge else list_of (records_of bytes)

-- a snapshot is of a feed that there may be
abbrev pub HasFeedWithin : ListRow → Type 0
HasFeedWithin (Snapshot row) = row.feed < 16
HasFeedWithin (Timetable folder) = Unit {0}

-- a list that can be followed has few rows, whose snapshots are each of a feed that there may be
pub record IsWithinLimits (rows : List ListRow) : Type 0 where
  pub few : length rows ≤ row_limit
  pub feeds : AllByRecursion HasFeedWithin rows
