-- What `check` is to write and to answer, and which files it reads. (This profile.)
use Rattle.std.specs.Prelude.{◌≡◌, ℕ, Bool, List, ◌⊎◌, Contains, Option}
use Rattle.std.specs.Io.KnownBytes.{append_known}
use Rattle.rt_outside.specs.Store.{Contents}
use Rattle.timetable.specs.Timetables.{Tables}
use Rattle.rule_history.specs.History.{Snapshot}
use Rattle.rule_history.specs.Standing.{Standing}
use Rattle.engine_laws.specs.Computed.{standings}
use Rattle.rt_report.specs.FindingLines.{all_text, any_error}
use Rattle.run_base.specs.Counted.{Work}
use Rattle.run_base.specs.Report.{Report}
use Rattle.run_timetable.specs.Timetables.{IsTableFile, with_timetable, work_with_timetable}
use Rattle.run_rows.specs.Counted.{files_work}
use Rattle.run_rows.specs.Files.{Ending, files_ended}

-- the lines of findings
abbrev pub findings_ending : List Standing → Ending
findings_ending list = record { text = all_text list; error = any_error list }

-- those of all findings on a history
abbrev pub all_findings : Option Tables → List Snapshot → Ending
all_findings t h = findings_ending (standings t h)

-- the report on files, which are snapshots of as many feeds, at one moment: behind the lines of all files stand all findings
abbrev pub files_report : Option Tables → ℕ → List (List ℕ) → Contents → Report
files_report t moment files contents = files_ended (all_findings t) t moment files contents

abbrev pub check_report : Option (List ℕ) → ℕ → List (List ℕ) → Contents → Report
check_report folder moment files = with_timetable (λ t. files_report t moment files) folder

-- how much it decodes and tests
abbrev pub check_work : Option (List ℕ) → ℕ → List (List ℕ) → Contents → Work
check_work folder moment files = work_with_timetable (λ t. files_work t moment files) folder

-- ---- the files that it reads
-- a file that `check` reads: one of those that are named, or one of the timetable's folder
abbrev pub IsInput : Option (List ℕ) → List (List ℕ) → List ℕ → Type 0
IsInput folder names name = Contains names name ⊎ IsTableFile folder name

-- ---- in the code
-- the lines of findings were written, and it is said whether one is of an error
pub record AreWritten (list : List Standing) (before now : Option (List ℕ)) (error : Bool) : Type 0 where
  pub written : now ≡ append_known before (all_text list)
  pub error_is : error ≡ any_error list
