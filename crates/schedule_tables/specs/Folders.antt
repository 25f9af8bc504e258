-- The files of a folder, read one after the other.
use Rattle.std.specs.Prelude.{◌≡◌, ◌≢◌, ◌⊎◌, ℕ, List, ◌∷◌, ◌++◌, length, nat_lt, Option, Some, None, Result, Ok, Err, if◌then◌else◌}
use Rattle.std.specs.FinMap.{get}
use Rattle.rt_outside.specs.Store.{Contents}
use Rattle.csv_records.specs.Results.{then_with}
use Rattle.schedule_rows.specs.Files.{file_name}
use Rattle.schedule_tables.specs.Tables.{Format, absent_table, table_in}
use Rattle.schedule_tables.specs.declared.fault.LoadFault.{LoadFault}
use Rattle.schedule_tables.specs.declared.fault.LoadFault.TheVariants.{Memory, ReadFault, TooLarge}
use Rattle.schedule_rows.specs.declared.file.File.{File}

-- the name of a file in a folder: the folder, a slash, and the file's name
abbrev pub path : List ℕ → File → List ℕ
path folder file = folder ++ 47 ∷ file_name file

-- a file that is held or not, of at most `limit` bytes
abbrev pub held_table : {R T : Type 0} → Format R T → ℕ → Option (List ℕ) → Result T LoadFault
held_table format limit None = absent_table format
held_table format limit (Some bytes) = if nat_lt limit (length bytes) then Err (TooLarge format.file) else table_in format bytes

-- the table of a file of a folder
abbrev pub table_of_file : {R T : Type 0} → Format R T → ℕ → List ℕ → Contents → Result T LoadFault
table_of_file format limit folder contents = held_table format limit (get contents (path folder format.file))

-- an answer is the one that is meant, unless memory was refused or reading failed
abbrev pub Answers : {T : Type 0} → Result T LoadFault → Result T LoadFault → Type 0
Answers meant (Ok table) = meant ≡ Ok table
Answers meant (Err fault) = fault ≢ Memory → ((file : File) → fault ≢ ReadFault file) → meant ≡ Err fault

-- some bytes make the table, or no file does
abbrev pub IsRead : {R T : Type 0} → Format R T → T → Type 0
IsRead format table = (absent_table format ≡ Ok table) ⊎ ((bytes : List ℕ) × (table_in format bytes ≡ Ok table))

-- one file after the other
abbrev pub both : {A B : Type 0} → Result A LoadFault → Result B LoadFault → Result (A × B) LoadFault
both first second = then_with first (λ a. then_with second (λ b. Ok (a, b)))
