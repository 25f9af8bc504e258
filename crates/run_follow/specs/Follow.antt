-- What `follow` is to write and to answer, and which files it reads. (This profile.)
use Rattle.std.specs.Prelude.{◌≡◌, ◌≢◌, ℕ, List, [], ◌⊎◌, Option, IfSome, Result, Ok, Err}
use Rattle.std.specs.FinMap.{get}
use Rattle.rt_outside.specs.Store.{Contents}
use Rattle.timetable.specs.Timetables.{Tables}
use Rattle.feed_list.specs.Lists.{list_in}
use Rattle.feed_list.specs.Texts.{fault_text}
use Rattle.feed_list.specs.declared.fault.ListFault.{ListFault}
use Rattle.feed_list.specs.declared.fault.ListFault.TheVariants as list_fault
use Rattle.feed_list.specs.declared.row.ListRow.{ListRow}
use Rattle.run_base.specs.declared.input_fault.InputFault.{InputFault}
use Rattle.run_base.specs.Counted.{Work, no_work}
use Rattle.run_base.specs.Faults.{refused_text}
use Rattle.run_base.specs.Inputs.{TellsInput}
use Rattle.run_base.specs.Report.{Report, found, refused_input}
use Rattle.run_timetable.specs.Timetables.{IsTableFile, with_timetable, work_with_timetable}
use Rattle.run_list.specs.Listed.{Outcome, list_outcome}
use Rattle.run_list.specs.Stops.{IsReadByRows}

-- the report of `follow` on rows
abbrev pub followed : Outcome → Report
followed o = record { text = o.text; errors = []; status = found o.error }

-- the report of `follow` with a timetable: its list may be refused
abbrev pub rows_report : Option Tables → List ℕ → Result (List ListRow) ListFault → Contents → Report
rows_report t list (Err fault) contents = refused_input (refused_text list (fault_text fault))
rows_report t list (Ok rows) contents = followed (list_outcome t contents rows)

abbrev pub list_report : List ℕ → Option Tables → Contents → Report
list_report list t contents = rows_report t list (list_in (get contents list)) contents

abbrev pub follow_report : Option (List ℕ) → List ℕ → Contents → Report
follow_report folder list = with_timetable (list_report list) folder

-- ---- how much it decodes and tests
-- on rows that a list has, with a timetable; nothing where the list is refused
abbrev pub rows_work : Option Tables → Result (List ListRow) ListFault → Contents → Work
rows_work t (Err fault) contents = no_work
rows_work t (Ok rows) contents = let o : Outcome = list_outcome t contents rows in o.work

abbrev pub list_work : List ℕ → Option Tables → Contents → Work
list_work list t contents = rows_work t (list_in (get contents list)) contents

abbrev pub follow_work : Option (List ℕ) → List ℕ → Contents → Work
follow_work folder list = work_with_timetable (list_work list) folder

-- ---- the files that it reads
-- a file that a row of a list has read: the list has the rows that its file says, where that is told
pub record IsListed (told : Option Contents) (list name : List ℕ) : Type 0 where
  pub rows : List ListRow
  pub rows_are : IfSome told (λ held. list_in (get held list) ≡ Ok rows)
  pub there : IsReadByRows rows name

-- a file that `follow` reads: its list, one that a row of it has read, or one of the timetable's folder
abbrev pub IsFollowed : Option Contents → Option (List ℕ) → List ℕ → List ℕ → Type 0
IsFollowed told folder list name = (name ≡ list) ⊎ (IsListed told list name ⊎ IsTableFile folder name)

-- what is told of a list's fault: that its read failed, or why it is refused
abbrev pub TellsListFault : List ℕ → ListFault → InputFault → Type 0
TellsListFault list fault why = TellsInput (λ file. (fault ≡ list_fault.ReadFault) × (file ≡ list))
    (λ text. (fault ≢ list_fault.ReadFault) × (fault ≢ list_fault.Memory) × (text ≡ refused_text list (fault_text fault))) why
