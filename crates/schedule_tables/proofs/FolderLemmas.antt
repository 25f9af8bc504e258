-- Files of a folder that are read from memory.
use Rattle.std.proofs.Common.{◌≡◌, ◌≢◌, ◌≤◌, ◌+◌, ℕ, List, [], ◌∷◌, length, false, nat_lt, Option, Some, None, Result, Ok, Err, IfSome, IfOk, IfErr, refl, sym, ap, ◌∙◌, subst, arith}
use Rattle.std.proofs.lemmas.Bool.Decides.{nat_tests}
use Rattle.std.specs.FinMap.{get}
use Rattle.rt_outside.specs.Store.{Contents}
use Rattle.schedule_rows.specs.Cells.{cells_of}
use Rattle.csv_records.specs.Results.{ok_or, then_with}
use Rattle.schedule_tables.specs.Folders.{Answers, held_table, path, table_of_file}
use Rattle.csv_records.specs.Records.{Record, records_of}
use Rattle.schedule_tables.specs.Tables.{Format, missing_column, row_at, rows_from, table_in, table_of_records, table_under, unless_missing, without_mark}
use Rattle.schedule_rows.specs.declared.column.Column.{Column}
use Rattle.schedule_rows.specs.declared.cell_fault.CellFault.{CellFault}
use Rattle.schedule_rows.specs.declared.cell_fault.CellFault.TheVariants as in_cell
use Rattle.schedule_tables.specs.declared.fault.LoadFault.{LoadFault}
use Rattle.schedule_tables.specs.declared.fault.LoadFault.TheVariants.{Memory, ReadFault, RepeatedKey}
use Rattle.schedule_rows.specs.declared.file.File.{File}

-- bytes in memory give no read fault
rows_from-read : {R T : Type 0} (format : Format R T) (header : Record) (n : ℕ) (table : T) (records : List Record) (file : File) → rows_from format header n table records ≢ Err (ReadFault file)
rows_from-read format header n table [] file e = cc e
rows_from-read {R} {T} format header n table (fields ∷ records) file e = by (format.row_of (cells_of header fields)) e (λ more. rows_from-read format header (n + 1) more records file)
  where
    put : (o : Option T) → then_with (ok_or o (RepeatedKey format.file n)) (λ more. rows_from format header (n + 1) more records) ≡ Err (ReadFault file)
        → ((more : T) → rows_from format header (n + 1) more records ≢ Err (ReadFault file)) → ⊥
    put None h later = cc h
    put (Some more) h later = later more h

    by : (read : Result R CellFault) → then_with (row_at format.file n read) (λ row. then_with (ok_or (format.added table row) (RepeatedKey format.file n)) (λ more. rows_from format header (n + 1) more records)) ≡ Err (ReadFault file)
        → ((more : T) → rows_from format header (n + 1) more records ≢ Err (ReadFault file)) → ⊥
    by (Err in_cell.NotText) h later = cc h
    by (Err (in_cell.BadValue column)) h later = cc h
    by (Err in_cell.Memory) h later = cc h
    by (Ok row) h later = put (format.added table row) h later

table_under-read : {R T : Type 0} (format : Format R T) (header : Record) (records : List Record) (file : File) → table_under format header records ≢ Err (ReadFault file)
table_under-read format header records file e = by (missing_column format.file header) e
  where
    by : (missing : Option Column) → unless_missing format.file missing (rows_from format header 2 format.empty records) ≡ Err (ReadFault file) → ⊥
    by (Some column) h = cc h
    by None h = rows_from-read format header 2 format.empty records file h

pub table_in-read : {R T : Type 0} (format : Format R T) (bytes : List ℕ) (file : File) → table_in format bytes ≢ Err (ReadFault file)
table_in-read format bytes file e = by (records_of (without_mark bytes)) e
  where
    by : (records : List Record) → table_of_records format records ≡ Err (ReadFault file) → ⊥
    by [] h = table_under-read format [] [] file h
    by (header ∷ records) h = table_under-read format header records file h

-- so an answer that stands on them is none
pub no_read_fault : {R T : Type 0} (format : Format R T) (bytes : List ℕ) (r : Result T LoadFault) (file : File) → IfErr r (λ e. e ≢ Memory → table_in format bytes ≡ Err e) → r ≢ Err (ReadFault file)
no_read_fault format bytes r file errs is =
    let read : ReadFault file ≢ Memory → table_in format bytes ≡ Err (ReadFault file) = subst (λ r. IfErr r (λ e. e ≢ Memory → table_in format bytes ≡ Err e)) is errs in
    table_in-read format bytes file (read (λ h. cc h))

-- the table of bytes that are held is the file's
pub held_answers : {R T : Type 0} (format : Format R T) (limit : ℕ) (folder name bytes : List ℕ) (r : Result T LoadFault) (told : Option Contents) → name ≡ path folder format.file
    → IfSome told (λ contents. (get contents name ≡ Some bytes) × (length bytes ≤ limit))
    → IfOk r (λ t. table_in format bytes ≡ Ok t) → IfErr r (λ e. e ≢ Memory → table_in format bytes ≡ Err e)
    → IfSome told (λ contents. Answers (table_of_file format limit folder contents) r)
held_answers format limit folder name bytes r None named held oks errs = tt
held_answers {R} {T} format limit folder name bytes r (Some contents) named held oks errs = by r oks errs
  where
    small : nat_lt limit (length bytes) ≡ false
    small = grind (arith, nat_tests, held.1)

    file : table_of_file format limit folder contents ≡ table_in format bytes
    file = ap (λ q. held_table format limit (get contents q)) (sym named) ∙ ap (held_table format limit) held.0 ∙ rw small refl

    by : (r : Result T LoadFault) → IfOk r (λ t. table_in format bytes ≡ Ok t) → IfErr r (λ e. e ≢ Memory → table_in format bytes ≡ Err e) → Answers (table_of_file format limit folder contents) r
    by (Ok table) ok err = file ∙ ok
    by (Err e) ok err = λ memory read. file ∙ err memory
