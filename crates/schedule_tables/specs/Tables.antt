-- How a file becomes a table, and its first fault.
use Rattle.std.specs.Prelude.{ℕ, ◌+◌, ◌&&◌, List, [], ◌∷◌, Option, Some, None, Result, Ok, Err, find, is_none, nat_eq, drop, if◌then◌else◌}
use Rattle.std.specs.List.{starts_with}
use Rattle.schedule_rows.specs.Cells.{Cells, cells_of}
use Rattle.csv_records.specs.Results.{ok_or, then_with}
use Rattle.schedule_rows.specs.Columns.{is_required, name_of}
use Rattle.schedule_rows.specs.Fields.{place_of}
use Rattle.schedule_rows.specs.Files.{columns_of, must_stand}
use Rattle.csv_records.specs.Records.{Record, records_of}
use Rattle.schedule_rows.specs.declared.column.Column.{Column}
use Rattle.schedule_rows.specs.declared.cell_fault.CellFault.{CellFault}
use Rattle.schedule_rows.specs.declared.cell_fault.CellFault.TheVariants as in_cell
use Rattle.schedule_tables.specs.declared.fault.LoadFault.{LoadFault}
use Rattle.schedule_tables.specs.declared.fault.LoadFault.TheVariants.{BadText, BadValue, Memory, MissingColumn, MissingFile, RepeatedKey}
use Rattle.schedule_rows.specs.declared.file.File.{File}

-- what is particular to a file: its name, what a row says, the empty table, and the table with one more row, if the
-- row's key didn't stand there before
pub record Format (Row T : Type 0) : Type 0 where
  pub file : File
  pub row_of : Cells → Result Row CellFault
  pub empty : T
  pub added : T → Row → Option T

-- a row's fault, with its file and its number
abbrev pub at_row : File → ℕ → CellFault → LoadFault
at_row file n in_cell.NotText = BadText file n
at_row file n (in_cell.BadValue column) = BadValue file n column
at_row file n in_cell.Memory = Memory

abbrev pub row_at : {Row : Type 0} → File → ℕ → Result Row CellFault → Result Row LoadFault
row_at file n (Ok row) = Ok row
row_at file n (Err fault) = Err (at_row file n fault)

-- the rows from number n on, put into the table one after the other, or the first fault
abbrev pub rows_from : {Row T : Type 0} → Format Row T → Record → ℕ → T → List Record → Result T LoadFault
rows_from format header n table [] = Ok table
rows_from format header n table (fields ∷ records) =
    then_with (row_at format.file n (format.row_of (cells_of header fields))) (λ row.
    then_with (ok_or (format.added table row) (RepeatedKey format.file n)) (λ more.
    rows_from format header (n + 1) more records))

-- the first required column that the header lacks
abbrev pub missing_column : File → Record → Option Column
missing_column file header = find (λ column. is_required column && is_none (place_of (name_of column) header)) (columns_of file)

-- what follows, unless a required column is missing
abbrev pub unless_missing : {T : Type 0} → File → Option Column → Result T LoadFault → Result T LoadFault
unless_missing file (Some column) result = Err (MissingColumn file column)
unless_missing file None result = result

-- a table whose header counts as row 1
abbrev pub table_under : {Row T : Type 0} → Format Row T → Record → List Record → Result T LoadFault
table_under format header records =
    unless_missing format.file (missing_column format.file header) (rows_from format header 2 format.empty records)

-- an empty file has a header without names
abbrev pub table_of_records : {Row T : Type 0} → Format Row T → List Record → Result T LoadFault
table_of_records format [] = table_under format [] []
table_of_records format (header ∷ records) = table_under format header records

-- a byte order mark
abbrev pub mark : List ℕ
mark = 0xEF ∷ 0xBB ∷ 0xBF ∷ []

abbrev pub without_mark : List ℕ → List ℕ
without_mark bytes = if starts_with nat_eq bytes mark then drop 3 bytes else bytes

-- a file's bytes; a byte order mark is dropped before `csv` reads them
abbrev pub table_in : {Row T : Type 0} → Format Row T → List ℕ → Result T LoadFault
table_in format bytes = table_of_records format (records_of (without_mark bytes))

-- a file that is absent
abbrev pub absent_table : {Row T : Type 0} → Format Row T → Result T LoadFault
absent_table format = if must_stand format.file then Err (MissingFile format.file) else Ok format.empty
