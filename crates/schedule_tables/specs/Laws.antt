-- What a table holds, in words of its rows' keys and records. The laws of the crate join these words to `table_under`,
-- which puts one row after the other into the table.
use Rattle.std.specs.Prelude.{◌≡◌, ℕ, ◌+◌, ◌&&◌, ◌⊎◌, ⊤, List, [], ◌∷◌, ◌++◌, length, map, Bool, false, Option, Some, None, option_map, option_and_then, Ok, Err, filter, find, unwrap_or}
use Rattle.std.specs.FinMap.{get}
use Rattle.std.specs.Str.{bytes_eq}
use Rattle.schedule_rows.specs.Cells.{cells_of}
use Rattle.schedule_tables.specs.Maps.{ByText}
use Rattle.csv_records.specs.Records.{Record}
use Rattle.schedule_tables.specs.Tables.{Format, at_row, missing_column, table_under}
use Rattle.schedule_rows.specs.declared.column.Column.{Column}
use Rattle.schedule_rows.specs.declared.cell_fault.CellFault.{CellFault}
use Rattle.schedule_tables.specs.declared.fault.LoadFault.{LoadFault}
use Rattle.schedule_tables.specs.declared.fault.LoadFault.TheVariants.{MissingColumn, RepeatedKey}
use Rattle.schedule_rows.specs.declared.row.Row.{Row}

-- no row has the key of a row before it
abbrev pub KeysDiffer : {R : Type 0} → (R → R → Bool) → (before rows : List R) → Type 0
KeysDiffer same before [] = ⊤
KeysDiffer same before (row ∷ rows) = (find (same row) before ≡ None) × KeysDiffer same (before ++ row ∷ []) rows

-- the rows of records: each record is read without a fault, and no two rows have one key
pub record AreRows {R T : Type 0} (format : Format R T) (same : R → R → Bool) (header : Record) (records : List Record) (rows : List R) : Type 0 where
  pub read : map (λ fields. format.row_of (cells_of header fields)) records ≡ map Ok rows
  pub differ : KeysDiffer same [] rows

-- an accepted file: no required column is missing, its rows are without fault, and the table says what they say
pub record IsAccepted {R T : Type 0} (format : Format R T) (same : R → R → Bool) (Says : T → List R → Type 0) (header : Record) (records : List Record) (table : T) : Type 0 where
  pub rows : List R
  pub complete : missing_column format.file header ≡ None
  pub sound : AreRows format same header records rows
  pub says : Says table rows

-- a cell of the row is not text or not a value of its column
pub record HasBadCell {R T : Type 0} (format : Format R T) (header : Record) (n : ℕ) (fields : Record) (fault : LoadFault) : Type 0 where
  pub cell : CellFault
  pub bad : format.row_of (cells_of header fields) ≡ Err cell
  pub named : fault ≡ at_row format.file n cell

-- the row's key stands in a row before it
pub record RepeatsKey {R T : Type 0} (format : Format R T) (same : R → R → Bool) (header : Record) (n : ℕ) (rows : List R) (fields : Record) (fault : LoadFault) : Type 0 where
  pub row : R
  pub earlier : R
  pub read : format.row_of (cells_of header fields) ≡ Ok row
  pub repeated : find (same row) rows ≡ Some earlier
  pub named : fault ≡ RepeatedKey format.file n

-- a refused row: the rows before it are without fault, and it isn't; the header is row 1
pub record FailsAtRow {R T : Type 0} (format : Format R T) (same : R → R → Bool) (header : Record) (records : List Record) (fault : LoadFault) : Type 0 where
  pub before : List Record
  pub fields : Record
  pub after : List Record
  pub rows : List R
  pub complete : missing_column format.file header ≡ None
  pub split : records ≡ before ++ fields ∷ after
  pub sound : AreRows format same header before rows
  pub faulty : HasBadCell format header (2 + length before) fields fault ⊎ RepeatsKey format same header (2 + length before) rows fields fault

-- a required column is missing, the first of the file's columns
pub record LacksColumn {R T : Type 0} (format : Format R T) (header : Record) (fault : LoadFault) : Type 0 where
  pub column : Column
  pub missing : missing_column format.file header ≡ Some column
  pub named : fault ≡ MissingColumn format.file column

-- what the table under a header is, both ways: `same` tells whether two rows have one key
pub record FollowsRows {R T : Type 0} (format : Format R T) (same : R → R → Bool) (Says : T → List R → Type 0) : Type 0 where
  pub accepted : (header : Record) (records : List Record) (table : T) → table_under format header records ≡ Ok table → IsAccepted format same Says header records table
  pub refused : (header : Record) (records : List Record) (fault : LoadFault) → table_under format header records ≡ Err fault
      → LacksColumn format header fault ⊎ FailsAtRow format same header records fault

-- how rows are found again: whether two of them have one key, the record of a row, and the record that a table holds
-- under the key of a row
pub record Keys (R T V : Type 0) : Type 0 where
  pub same : R → R → Bool
  pub record_of : R → V
  pub held : T → R → Option V

-- the table has under each key the record of the row with that key, and nothing under other keys
abbrev pub HoldsEach : {R T V : Type 0} → Keys R T V → T → List R → Type 0
HoldsEach {R} keys table rows = (row : R) → keys.held table row ≡ option_map keys.record_of (find (keys.same row) rows)

-- the keys of rows that go by an id first
abbrev pub row_keys : {I G V : Type 0} → Keys I G V → Keys (Row I) (ByText G) V
row_keys keys = record {
  same = λ a b. bytes_eq a.id b.id && keys.same a.item b.item;
  record_of = λ row. keys.record_of row.item;
  held = λ groups row. option_and_then (λ group. keys.held group row.item) (get groups row.id);
}

-- rows without a key
abbrev pub never_same : {R : Type 0} → R → R → Bool
never_same a b = false

-- the table has under each id the items of the rows with that id, in order
abbrev pub ListsEach : {I : Type 0} → ByText (List I) → List (Row I) → Type 0
ListsEach groups rows = (id : List ℕ) → unwrap_or (get groups id) [] ≡ map (λ row. row.item) (filter (λ row. bytes_eq id row.id) rows)
