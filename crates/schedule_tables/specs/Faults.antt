-- What is wrong in a file of a timetable, as it is told. (This profile.)
use Rattle.std.specs.Prelude.{ℕ, List, ◌++◌, codes, decimal}
use Rattle.schedule_rows.specs.Columns.{name_of}
use Rattle.schedule_rows.specs.Files.{file_name}
use Rattle.schedule_rows.specs.declared.file.File.{File}
use Rattle.schedule_tables.specs.declared.fault.LoadFault.{LoadFault}
use Rattle.schedule_tables.specs.declared.fault.LoadFault.TheVariants.{MissingFile, MissingColumn, BadText, BadValue, RepeatedKey, TooLarge, ReadFault, Memory}

-- a file, and what is wrong there
abbrev pub in_file : File → List ℕ → List ℕ
in_file file why = file_name file ++ codes ": " ++ why

-- what is wrong in a row of a file, where the header is row 1
abbrev pub in_row : ℕ → List ℕ → List ℕ
in_row row why = codes "row " ++ decimal row ++ codes ": " ++ why

abbrev pub fault_text : LoadFault → List ℕ
fault_text (MissingFile file) = in_file file (codes "missing file")
fault_text (MissingColumn file column) = in_file file (codes "missing column " ++ name_of column)
fault_text (BadText file row) = in_file file (in_row row (codes "not text"))
fault_text (BadValue file row column) = in_file file (in_row row (codes "bad value in " ++ name_of column))
fault_text (RepeatedKey file row) = in_file file (in_row row (codes "repeated key"))
fault_text (TooLarge file) = in_file file (codes "too large")
fault_text (ReadFault file) = in_file file (codes "read fault")
fault_text Memory = codes "out of memory"
