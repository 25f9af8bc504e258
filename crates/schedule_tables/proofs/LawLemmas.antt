-- A table that rows are put into one after the other holds what its rows say.
use Rattle.std.proofs.Common.{◌≡◌, ℕ, ◌+◌, ◌++◌, ◌⊎◌, inl, inr, add-zero, List, [], ◌∷◌, length, map, Bool, Option, Some, None, Result, Ok, Err, find, refl, ap, append_assoc, arith}
use Rattle.std.proofs.lemmas.List.{append-nil}
use Rattle.schedule_rows.specs.Cells.{cells_of}
use Rattle.csv_records.specs.Results.{ok_or, then_with}
use Rattle.schedule_tables.specs.Laws.{FailsAtRow, FollowsRows, HasBadCell, IsAccepted, KeysDiffer, LacksColumn, RepeatsKey}
use Rattle.csv_records.specs.Records.{Record}
use Rattle.schedule_tables.specs.Tables.{Format, missing_column, row_at, rows_from, unless_missing}
use Rattle.schedule_rows.specs.declared.column.Column.{Column}
use Rattle.schedule_rows.specs.declared.cell_fault.CellFault.{CellFault}
use Rattle.schedule_tables.specs.declared.fault.LoadFault.{LoadFault}
use Rattle.schedule_tables.specs.declared.fault.LoadFault.TheVariants.{RepeatedKey}

-- the table with a row of a new key
pub record Adds {R T : Type 0} (format : Format R T) (Says : T → List R → Type 0) (table : T) (done : List R) (row : R) : Type 0 where
  pub more : T
  pub added : format.added table row ≡ Some more
  pub says : Says more (done ++ row ∷ [])

-- what a format does with its rows
pub record Keeps {R T : Type 0} (format : Format R T) (same : R → R → Bool) (Says : T → List R → Type 0) : Type 0 where
  pub empty : Says format.empty []
  pub fresh : (table : T) (done : List R) (row : R) → Says table done → find (same row) done ≡ None → Adds format Says table done row
  pub repeated : (table : T) (done : List R) (row earlier : R) → Says table done → find (same row) done ≡ Some earlier → format.added table row ≡ None

-- the rows that were read from the records that were left
record Read {R T : Type 0} (format : Format R T) (same : R → R → Bool) (header : Record) (done : List R) (records : List Record) (rows : List R) : Type 0 where
  read : map (λ fields. format.row_of (cells_of header fields)) records ≡ map Ok rows
  differ : KeysDiffer same done rows

record Accepted {R T : Type 0} (format : Format R T) (same : R → R → Bool) (Says : T → List R → Type 0) (header : Record) (done : List R) (records : List Record) (table : T) : Type 0 where
  rows : List R
  are : Read format same header done records rows
  says : Says table (done ++ rows)

abbrev Step : {R T : Type 0} → Format R T → Record → ℕ → T → List Record → Result R CellFault → Result T LoadFault
Step format header n table records read =
    then_with (row_at format.file n read) (λ row. then_with (ok_or (format.added table row) (RepeatedKey format.file n)) (λ more. rows_from format header (n + 1) more records))

accepted_from : {R T : Type 0} (format : Format R T) (same : R → R → Bool) (Says : T → List R → Type 0) → Keeps format same Says → (header : Record) (n : ℕ) (table : T) (done : List R) (records : List Record) (final : T)
    → rows_from format header n table records ≡ Ok final → Says table done → Accepted format same Says header done records final
accepted_from {R} {T} format same Says keeps header n table done [] final e says =
    let one : table ≡ final = cc e in
    record { rows = []; are = record { read = refl; differ = tt }; says = rw (append-nil done) (rw one at says) }
accepted_from {R} {T} format same Says keeps header n table done (fields ∷ records) final e says =
    by (format.row_of (cells_of header fields)) refl e (λ more now h s. accepted_from format same Says keeps header (n + 1) more now records final h s)
  where
    by : (read : Result R CellFault) → format.row_of (cells_of header fields) ≡ read → Step format header n table records read ≡ Ok final
        → ((more : T) (now : List R) → rows_from format header (n + 1) more records ≡ Ok final → Says more now → Accepted format same Says header now records final)
        → Accepted format same Says header done (fields ∷ records) final
    by (Err fault) is h later = cc h
    by (Ok row) is h later = at_key (find (same row) done) refl
      where
        at_key : (o : Option R) → find (same row) done ≡ o → Accepted format same Says header done (fields ∷ records) final
        at_key (Some earlier) there = let refused = rw (keeps.repeated table done row earlier says there) at h in cc refused
        at_key None new =
            let adds = keeps.fresh table done row says new in
            let rest = later adds.more (done ++ row ∷ []) (rw adds.added at h) adds.says in
            record {
              rows = row ∷ rest.rows;
              are = record { read = rw (is, rest.are.read) refl; differ = (new, rest.are.differ) };
              says = rw append_assoc at rest.says;
            }

record Refused {R T : Type 0} (format : Format R T) (same : R → R → Bool) (header : Record) (n : ℕ) (done : List R) (records : List Record) (fault : LoadFault) : Type 0 where
  before : List Record
  fields : Record
  after : List Record
  rows : List R
  split : records ≡ before ++ fields ∷ after
  are : Read format same header done before rows
  faulty : HasBadCell format header (n + length before) fields fault ⊎ RepeatsKey format same header (n + length before) (done ++ rows) fields fault

refused_from : {R T : Type 0} (format : Format R T) (same : R → R → Bool) (Says : T → List R → Type 0) → Keeps format same Says → (header : Record) (n : ℕ) (table : T) (done : List R) (records : List Record) (fault : LoadFault)
    → rows_from format header n table records ≡ Err fault → Says table done → Refused format same header n done records fault
refused_from {R} {T} format same Says keeps header n table done [] fault e says = cc e
refused_from {R} {T} format same Says keeps header n table done (fields ∷ records) fault e says =
    by (format.row_of (cells_of header fields)) refl e (λ more now h s. refused_from format same Says keeps header (n + 1) more now records fault h s)
  where
    here : (HasBadCell format header n fields fault ⊎ RepeatsKey format same header n done fields fault) → Refused format same header n done (fields ∷ records) fault
    here faulty = record {
      before = [];
      fields = fields;
      after = records;
      rows = [];
      split = refl;
      are = record { read = refl; differ = tt };
      faulty = rw (add-zero n, append-nil done) faulty;
    }

    by : (read : Result R CellFault) → format.row_of (cells_of header fields) ≡ read → Step format header n table records read ≡ Err fault
        → ((more : T) (now : List R) → rows_from format header (n + 1) more records ≡ Err fault → Says more now → Refused format same header (n + 1) now records fault)
        → Refused format same header n done (fields ∷ records) fault
    by (Err cell) is h later = here (inl (record { cell = cell; bad = is; named = cc h }))
    by (Ok row) is h later = at_key (find (same row) done) refl
      where
        at_key : (o : Option R) → find (same row) done ≡ o → Refused format same header n done (fields ∷ records) fault
        at_key (Some earlier) there =
            let refused = rw (keeps.repeated table done row earlier says there) at h in
            here (inr (record { row = row; earlier = earlier; read = is; repeated = there; named = cc refused }))
        at_key None new =
            let adds = keeps.fresh table done row says new in
            let rest = later adds.more (done ++ row ∷ []) (rw adds.added at h) adds.says in
            let number : n + 1 + length rest.before ≡ n + length (fields ∷ rest.before) = omega arith in
            record {
              before = fields ∷ rest.before;
              fields = rest.fields;
              after = rest.after;
              rows = row ∷ rest.rows;
              split = ap (λ rs. fields ∷ rs) {y = rest.before ++ rest.fields ∷ rest.after} rest.split;
              are = record { read = rw (is, rest.are.read) refl; differ = (new, rest.are.differ) };
              faulty = rw (← number) (rw append_assoc at rest.faulty);
            }

-- of a format that keeps to its keys the table says what the rows say, both ways
pub follows_rows : {R T : Type 0} (format : Format R T) (same : R → R → Bool) (Says : T → List R → Type 0) → Keeps format same Says → FollowsRows format same Says
follows_rows {R} {T} format same Says keeps = record { accepted = λ header records. accepted header records (missing_column format.file header) refl; refused = λ header records. refused header records (missing_column format.file header) refl }
  where
    accepted : (header : Record) (records : List Record) (missing : Option Column) → missing_column format.file header ≡ missing → (table : T)
        → unless_missing format.file missing (rows_from format header 2 format.empty records) ≡ Ok table → IsAccepted format same Says header records table
    accepted header records (Some column) is table e = cc e
    accepted header records None is table e =
        let a = accepted_from format same Says keeps header 2 format.empty [] records table e keeps.empty in
        record { rows = a.rows; complete = is; sound = record { read = a.are.read; differ = a.are.differ }; says = a.says }

    refused : (header : Record) (records : List Record) (missing : Option Column) → missing_column format.file header ≡ missing → (fault : LoadFault)
        → unless_missing format.file missing (rows_from format header 2 format.empty records) ≡ Err fault → LacksColumn format header fault ⊎ FailsAtRow format same header records fault
    refused header records (Some column) is fault e = inl (record { column = column; missing = is; named = cc e })
    refused header records None is fault e =
        let r = refused_from format same Says keeps header 2 format.empty [] records fault e keeps.empty in
        inr (record { before = r.before; fields = r.fields; after = r.after; rows = r.rows; complete = is; split = r.split; sound = record { read = r.are.read; differ = r.are.differ }; faulty = r.faulty })
