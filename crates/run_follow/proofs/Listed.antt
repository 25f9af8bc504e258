-- The list of `follow`, and what its rows give.
use Rattle.std.proofs.Common.{◌≡◌, ◌≢◌, ℕ, inl, inr, Bool, List, [], refl, sym, ap, ◌∙◌, subst, Some, None, IfSome, Ok, Err}
use Rattle.std.specs.declared.option.Option.{Option}
use Rattle.std.specs.FinMap.{get}
use Rattle.std.specs.Io.KnownBytes.{append_known}
use Rattle.rt_outside.specs.Causes.{Rose}
use Rattle.rt_outside.specs.Sink.{AppendsPrefix, SinkState}
use Rattle.rt_outside.specs.Store.{Contents, FilesState, contents_told}
use Rattle.timetable.specs.Timetables.{Tables}
use Rattle.feed_list.specs.Lists.{list_in}
use Rattle.feed_list.specs.Texts.{fault_text}
use Rattle.feed_list.specs.declared.fault.ListFault.{ListFault}
use Rattle.feed_list.specs.declared.fault.ListFault.TheVariants as listed
use Rattle.feed_list.specs.declared.row.ListRow.{ListRow}
use Rattle.run_base.specs.declared.input_fault.InputFault.{InputFault}
use Rattle.run_base.specs.declared.status.Status.{Status}
use Rattle.run_base.specs.Carried.{CarriesOut, exactly}
use Rattle.run_base.specs.Faults.{IsErrorText, SaysFault, refused_text, says_refused}
use Rattle.run_base.specs.Inputs.{FailsAt, SaysInputFault, in_folder}
use Rattle.run_base.specs.declared.fault.Fault.TheVariants as fault
use Rattle.run_base.specs.Outside.{Outside, outside}
use Rattle.run_base.specs.Report.{Report, found, refused_input}
use Rattle.run_base.proofs.Carried.{carried_fault, carried_input, carried_other_fault, input_more}
use Rattle.run_list.specs.Listed.{Outcome, list_outcome}
use Rattle.run_list.specs.Stops.{fault_of, name_of, IsStop}
use Rattle.run_list.specs.declared.stop.Stop.{Stop}
use Rattle.run_list.specs.declared.stop.Stop.TheVariants as stop
use Rattle.run_follow.specs.Follow.{IsFollowed, IsListed, TellsListFault, followed, list_report, list_work, rows_report, rows_work}

-- what is read without a timetable is read with one
pub followed_more : (mid told : Option Contents) (folder : Option (List ℕ)) (list : List ℕ) → mid ≡ told → (name : List ℕ) → IsFollowed mid None list name → IsFollowed told folder list name
followed_more mid told folder list same name (inl is) = inl is
followed_more mid told folder list same name (inr (inl is)) = inr (inl (subst (λ t. IsListed t list name) same is))
followed_more mid told folder list same name (inr (inr none)) = absurd none

-- a list that was read gives the report on its rows
pub rows_listed : (told : Option Contents) (t : Option Tables) (list : List ℕ) (rows : List ListRow) → IfSome told (λ held. list_in (get held list) ≡ Ok rows) →
    IfSome told (λ held. followed (list_outcome t held rows) ≡ list_report list t held)
rows_listed None t list rows is = tt
rows_listed (Some held) t list rows is = ap (λ r. rows_report t list r held) (sym is)

-- and the work for them
pub work_listed : (told : Option Contents) (t : Option Tables) (list : List ℕ) (rows : List ListRow) → IfSome told (λ held. list_in (get held list) ≡ Ok rows) →
    IfSome told (λ held. (let o : Outcome = list_outcome t held rows in o.work) ≡ list_work list t held)
work_listed None t list rows is = tt
work_listed (Some held) t list rows is = ap (λ r. rows_work t r held) (sym is)

-- its fault is the report
pub list_refused : (told : Option Contents) (t : Option Tables) (list : List ℕ) (why : ListFault) → IfSome told (λ held. list_in (get held list) ≡ Err why) →
    IfSome told (λ held. list_report list t held ≡ refused_input (refused_text list (fault_text why)))
list_refused None t list why is = tt
list_refused (Some held) t list why is = ap (λ r. rows_report t list r held) is

-- it is told, and the report is that it is refused
pub carried_list : (t : Option Tables) (files later : FilesState) (out eb ea : SinkState) (result : Status) (list : List ℕ) (reads : List ℕ → Type 0) (fault : ListFault) (why : InputFault) → reads list →
    ((fault ≢ listed.ReadFault) → (fault ≢ listed.Memory) → IfSome (contents_told files.told) (λ held. list_in (get held list) ≡ Err fault)) →
    (fault ≡ listed.ReadFault → Rose files.faults later.faults) → IfSome later.asked (λ asked. asked ≡ list) →
    TellsListFault list fault why → SaysInputFault why eb ea result → CarriesOut (exactly (list_report list t)) reads (outside files out eb) (outside later out ea) result
carried_list t files later out eb ea result list reads fault why may is rose asked tells said =
    carried_input (list_report list t) reads files later out eb ea result why
    (input_more (λ name. (fault ≡ listed.ReadFault) × (name ≡ list))
    (λ text. (fault ≢ listed.ReadFault) × (fault ≢ listed.Memory) × (text ≡ refused_text list (fault_text fault))) (FailsAt reads files later)
    (λ text. IsErrorText reads text × IfSome (contents_told files.told) (λ held. list_report list t held ≡ refused_input text)) why
    (λ name w. (subst reads (sym w.1) may, rose w.0, subst (λ n. IfSome later.asked (λ asked. asked ≡ n)) (sym w.1) asked))
    (λ text w. (
      subst (IsErrorText reads) (sym w.2) (says_refused list (fault_text fault) may),
      subst (λ x. IfSome (contents_told files.told) (λ held. list_report list t held ≡ refused_input x)) (sym w.2) (list_refused (contents_told files.told) t list fault (is w.0 w.1)),
    )) tells) said

-- rows that were followed to their end
pub rows_done : (told : Option Contents) (t : Option Tables) (rows : List ListRow) (error : Bool) (before now : Option (List ℕ)) (result : Status) → result ≡ found error →
    IfSome told (λ held. (error ≡ (let o : Outcome = list_outcome t held rows in o.error)) × (now ≡ append_known before (let o : Outcome = list_outcome t held rows in o.text))) →
    IfSome told (λ held. (now ≡ append_known before (followed (list_outcome t held rows)).text) × (result ≡ (followed (list_outcome t held rows)).status) × ((followed (list_outcome t held rows)).errors ≡ []))
rows_done None t rows error before now result is done = tt
rows_done (Some held) t rows error before now result is done = (done.1, is ∙ ap found done.0, refl)

-- rows that weren't: the fault is told
pub carried_stop : (report : Contents → Report) (reads : List ℕ → Type 0) (before after : Outside) (result : Status) →
    IfSome (contents_told before.files.told) (λ held. AppendsPrefix before.out.written after.out.written (report held).text) → (why : Stop) →
    IsStop reads after.files.asked (Rose before.files.faults after.files.faults) (Rose before.out.faults after.out.faults) why → SaysFault (fault_of why) (name_of why) before.err after.err result →
    CarriesOut (exactly report) reads before after result
carried_stop report reads before after result part (stop.Read name) is says =
    carried_fault report reads before after result part fault.Read name.now (is.reading refl) is.read is.write (is.named refl) says
carried_stop report reads before after result part (stop.ReadIn folder name) is says =
    carried_fault report reads before after result part fault.Read (in_folder folder.now name.now) (is.reading refl) is.read is.write (is.named refl) says
carried_stop report reads before after result part stop.Write is says = carried_other_fault report reads before after result part fault.Write [] (λ e. cc e) is.write says
carried_stop report reads before after result part stop.Memory is says = carried_other_fault report reads before after result part fault.Memory [] (λ e. cc e) is.write says
