-- The timetable that a command asks for, what is told of one that is refused, and a report with it. (This profile.)
use Rattle.std.specs.Prelude.{◌≡◌, ℕ, List, [], ◌∷◌, ◌++◌, codes, if◌then◌else◌, Option, Some, None, IfSome, Result, Ok, Err}
use Rattle.rt_outside.specs.Store.{Contents}
use Rattle.timetable.specs.Faults.{fault_text}
use Rattle.timetable.specs.Folders.{path}
use Rattle.timetable.specs.Lookups.{is_present, tables_in}
use Rattle.timetable.specs.Timetables.{Tables, tables_of}
use Rattle.timetable.specs.declared.LoadFault.{LoadFault}
use Rattle.timetable.specs.declared.LoadFault.TheVariants.{ReadFault, Memory}
use Rattle.timetable.specs.declared.File.{File}
use Rattle.timetable.specs.declared.timetable.Timetable.{Timetable}
use Rattle.run_base.specs.declared.input_fault.InputFault.{InputFault}
use Rattle.run_base.specs.Counted.{Work, no_work}
use Rattle.run_base.specs.Faults.{IsErrorText}
use Rattle.run_base.specs.Inputs.{TellsInput}
use Rattle.run_base.specs.Report.{Report, refused_input}

-- a file of this name stands in the folder of a timetable, where one is given
abbrev pub IsTableFile : Option (List ℕ) → List ℕ → Type 0
IsTableFile None name = ⊥
IsTableFile (Some folder) name = (file : File) × (name ≡ path folder file)

-- ---- what is told of one that is refused
-- a fault of a file of the folder
abbrev pub in_folder : List ℕ → LoadFault → List ℕ
in_folder folder fault = folder ++ 47 ∷ fault_text fault

-- Why the timetable in a folder is refused. A failed read and want of memory are no faults of what files hold, and have texts of their own.
abbrev pub why_refused : List ℕ → LoadFault → List ℕ
why_refused folder (ReadFault file) = []
why_refused folder Memory = []
why_refused folder fault = in_folder folder fault

-- as it is told on the error stream
abbrev pub refusal_text : List ℕ → LoadFault → List ℕ
refusal_text folder fault = codes "refused: " ++ why_refused folder fault ++ codes "\n"

-- the text of the first fault of a timetable, if it has one
abbrev pub refusal_of : List ℕ → Result Tables LoadFault → Option (List ℕ)
refusal_of folder (Ok tables) = None
refusal_of folder (Err fault) = Some (refusal_text folder fault)

-- the same of the timetable that a request asks for, if it asks for one
unfoldable pub timetable_refusal : Option (List ℕ) → Contents → Option (List ℕ)
timetable_refusal None contents = None
timetable_refusal (Some folder) contents = refusal_of folder (tables_of folder contents)

-- the tables of the timetable that a request asks for, if it asks for one and it is accepted
abbrev pub accepted_tables : Result Tables LoadFault → Option Tables
accepted_tables (Ok tables) = Some tables
accepted_tables (Err fault) = None

unfoldable pub timetable_of : Option (List ℕ) → Contents → Option Tables
timetable_of None contents = None
timetable_of (Some folder) contents = accepted_tables (tables_of folder contents)

-- what is told of a timetable that isn't loaded: the file whose read failed, or why it is refused
abbrev pub TellsLoadFault : List ℕ → LoadFault → InputFault → Type 0
TellsLoadFault folder fault why = TellsInput (λ name. (file : File) × (fault ≡ ReadFault file) × (name ≡ path folder file))
    (λ text. ((file : File) → fault ≡ ReadFault file → ⊥) × (fault ≡ Memory → ⊥) × (text ≡ refusal_text folder fault)) why

-- a text that is told of the timetable that was asked for, which is refused
abbrev pub IsLoadText : Option Contents → Option (List ℕ) → List ℕ → Type 0
IsLoadText told folder text = IsErrorText (IsTableFile folder) text × IfSome told (λ held. timetable_refusal folder held ≡ Some text)

-- the tables of a timetable, where it isn't absent
abbrev pub tables_had : Timetable → Option Tables
tables_had timetable = if is_present timetable then Some (tables_in timetable) else None

-- it is the timetable that was asked for
abbrev pub IsGiven : Option (List ℕ) → Contents → Timetable → Type 0
IsGiven folder contents timetable = (timetable_refusal folder contents ≡ None) × (timetable_of folder contents ≡ tables_had timetable)

-- ---- a report with it
-- a report with the timetable of a folder, where one is given, unless that is refused
abbrev pub unless_refused : Option (List ℕ) → Report → Report
unless_refused None report = report
unless_refused (Some text) report = refused_input text

abbrev pub with_timetable : (Option Tables → Contents → Report) → Option (List ℕ) → Contents → Report
with_timetable report folder contents = unless_refused (timetable_refusal folder contents) (report (timetable_of folder contents) contents)

-- the work of a run with it: none where it is refused
abbrev pub work_unless_refused : Option (List ℕ) → Work → Work
work_unless_refused None work = work
work_unless_refused (Some text) work = no_work

abbrev pub work_with_timetable : (Option Tables → Contents → Work) → Option (List ℕ) → Contents → Work
work_with_timetable work folder contents = work_unless_refused (timetable_refusal folder contents) (work (timetable_of folder contents) contents)
