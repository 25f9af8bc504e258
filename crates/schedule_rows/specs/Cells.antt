-- The cells of a row: what stands in each column.
use Rattle.std.specs.Prelude.{ℕ, List, [], Option, Some, None, option_map, Result, Ok, Err, if◌then◌else◌}
use Rattle.std.specs.Str.{bytes_eq}
use Rattle.csv_records.specs.Records.{Record}
use Rattle.csv_records.specs.Results.{ok_or, then_with}
use Rattle.csv_records.specs.Texts.{text_of}
use Rattle.schedule_rows.specs.Columns.{name_of}
use Rattle.schedule_rows.specs.Fields.{field_in, place_of}
use Rattle.schedule_rows.specs.declared.column.Column.{Column}
use Rattle.schedule_rows.specs.declared.cell_fault.CellFault.{CellFault}
use Rattle.schedule_rows.specs.declared.cell_fault.CellFault.TheVariants.{BadValue, NotText}

abbrev pub Cells : Type 0
Cells = Column → List ℕ

-- the cells of a row under a header
abbrev pub cells_of : (header row : Record) → Cells
cells_of header row column = field_in (place_of (name_of column) header) row

-- the value of a cell: first not text, then a bad value
abbrev pub cell : {V : Type 0} → (List ℕ → Option V) → Column → Cells → Result V CellFault
cell read column cells = then_with (ok_or (text_of (cells column)) NotText) (λ text. ok_or (read text) (BadValue column))

-- any text
abbrev pub any_text : List ℕ → Option (List ℕ)
any_text text = Some text

-- a text that isn't blank
abbrev pub filled : List ℕ → Option (List ℕ)
filled text = if bytes_eq text [] then None else Some text

-- a value that may be left blank
abbrev pub optional : {V : Type 0} → (List ℕ → Option V) → List ℕ → Option (Option V)
optional read text = if bytes_eq text [] then Some None else option_map Some (read text)
