-- The timetable that a command asks for, and a report with it.
use Rattle.std.proofs.Common.{◌≡◌, ℕ, List, ◌∷◌, ◌++◌, append_assoc, codes, Bool, true, false, cond, refl, sym, ap, ◌∙◌, subst, Some, None, IfSome, Ok, Err}
use Rattle.std.specs.declared.option.Option.{Option}
use Rattle.rt_outside.specs.Causes.{Rose}
use Rattle.rt_outside.specs.Sink.{SinkState}
use Rattle.rt_outside.specs.Store.{Contents, FilesState, contents_told}
use Rattle.timetable.specs.Faults.{in_file}
use Rattle.timetable.specs.Folders.{path}
use Rattle.timetable.specs.Lookups.{is_present, tables_in}
use Rattle.timetable.specs.Timetables.{Tables, tables_of}
use Rattle.timetable.specs.declared.LoadFault.{LoadFault}
use Rattle.timetable.specs.declared.LoadFault.TheVariants as load
use Rattle.timetable.specs.declared.File.{File}
use Rattle.timetable.specs.declared.timetable.Timetable.{Timetable}
use Rattle.run_base.specs.declared.input_fault.InputFault.{InputFault}
use Rattle.run_base.specs.declared.status.Status.{Status}
use Rattle.run_base.specs.Carried.{CarriesOut, exactly}
use Rattle.run_base.specs.Counted.{Work}
use Rattle.run_base.specs.Faults.{IsErrorText, refused_text, says_refused}
use Rattle.run_base.specs.Inputs.{FailsAt, SaysInputFault, TellsInput}
use Rattle.run_base.specs.Outside.{outside}
use Rattle.run_base.specs.Report.{Report, refused_input}
use Rattle.run_base.proofs.Carried.{carried_input, input_more}
use Rattle.run_base.proofs.Chosen.{carried_within, each}
use Rattle.run_base.proofs.Told.{error_text_more}
use Rattle.run_timetable.specs.Timetables.{IsGiven, IsLoadText, IsTableFile, TellsLoadFault, accepted_tables, in_folder, refusal_of, refusal_text, tables_had, timetable_of, timetable_refusal, unless_refused, why_refused, with_timetable, work_unless_refused, work_with_timetable}

none_refused : (contents : Contents) → timetable_refusal None contents ≡ None
unfolding timetable_refusal
none_refused contents = refl

accepted : (folder : List ℕ) (contents : Contents) (tables : Tables) → tables_of folder contents ≡ Ok tables → timetable_refusal (Some folder) contents ≡ None
unfolding timetable_refusal
accepted folder contents tables e = ap (refusal_of folder) e

refused : (folder : List ℕ) (contents : Contents) (fault : LoadFault) → tables_of folder contents ≡ Err fault →
    timetable_refusal (Some folder) contents ≡ Some (refusal_text folder fault)
unfolding timetable_refusal
refused folder contents fault e = ap (refusal_of folder) e

none_held : (contents : Contents) → timetable_of None contents ≡ None
unfolding timetable_of
none_held contents = refl

held : (folder : List ℕ) (contents : Contents) (tables : Tables) → tables_of folder contents ≡ Ok tables → timetable_of (Some folder) contents ≡ Some tables
unfolding timetable_of
held folder contents tables e = ap accepted_tables e

-- ---- the timetable of a folder that may be given
had : (t : Timetable) (b : Bool) → is_present t ≡ b → tables_had t ≡ cond b (Some (tables_in t)) None
had t b e = ap (λ b. cond b (Some (tables_in t)) None) e

pub none_given : (told : Option Contents) (t : Timetable) → is_present t ≡ false → IfSome told (λ held. IsGiven None held t)
none_given None t e = tt
none_given (Some c) t e = (none_refused c, none_held c ∙ sym (had t false e))

pub folder_given : (told : Option Contents) (folder : List ℕ) (t : Timetable) → is_present t ≡ true → IfSome told (λ held. tables_of folder held ≡ Ok (tables_in t)) →
    IfSome told (λ held. IsGiven (Some folder) held t)
folder_given None folder t e is = tt
folder_given (Some c) folder t e is = (accepted folder c (tables_in t) is, held folder c (tables_in t) is ∙ sym (had t true e))

-- ---- one that isn't loaded
-- a file and what is wrong there, as it is told on the error stream
in_file_told : (folder : List ℕ) (file : File) (why : List ℕ) → refused_text (path folder file) why ≡ codes "refused: " ++ (folder ++ 47 ∷ in_file file why) ++ codes "\n"
in_file_told folder file why = simp append_assoc

-- a fault that is none of reading or memory is one of a file of the folder
pub refused_in : (folder : List ℕ) (fault : LoadFault) → ((file : File) → fault ≡ load.ReadFault file → ⊥) → (fault ≡ load.Memory → ⊥) →
    in_folder folder fault ≡ why_refused folder fault
refused_in folder fault read memory = by fault refl
  where
    by : (f : LoadFault) → fault ≡ f → in_folder folder f ≡ why_refused folder f
    by (load.MissingFile file) is = refl
    by (load.MissingColumn file column) is = refl
    by (load.BadText file row) is = refl
    by (load.BadValue file row column) is = refl
    by (load.RepeatedKey file row) is = refl
    by (load.TooLarge file) is = refl
    by (load.ReadFault file) is = absurd (read file is)
    by load.Memory is = absurd (memory is)

-- the text of a refused one names a file of its folder
load_text : (folder : List ℕ) (fault : LoadFault) → ((file : File) → fault ≡ load.ReadFault file → ⊥) → (fault ≡ load.Memory → ⊥) →
    IsErrorText (IsTableFile (Some folder)) (refusal_text folder fault)
load_text folder fault read memory = by fault refl
  where
    at : (file : File) (why : List ℕ) → IsErrorText (IsTableFile (Some folder)) (codes "refused: " ++ (folder ++ 47 ∷ in_file file why) ++ codes "\n")
    at file why = subst (IsErrorText (IsTableFile (Some folder))) (in_file_told folder file why) (says_refused (path folder file) why (file, refl))

    by : (f : LoadFault) → fault ≡ f → IsErrorText (IsTableFile (Some folder)) (refusal_text folder f)
    by (load.MissingFile file) is = at file _
    by (load.MissingColumn file column) is = at file _
    by (load.BadText file row) is = at file _
    by (load.BadValue file row column) is = at file _
    by (load.RepeatedKey file row) is = at file _
    by (load.TooLarge file) is = at file _
    by (load.ReadFault file) is = absurd (read file is)
    by load.Memory is = absurd (memory is)

-- what its fault is told as, by what holds of a failed read and of a refused text
pub load_input : (folder : List ℕ) (fault : LoadFault) (why : InputFault) (failed refused : List ℕ → Type 0) → TellsLoadFault folder fault why →
    ((file : File) → fault ≡ load.ReadFault file → failed (path folder file)) →
    (((file : File) → fault ≡ load.ReadFault file → ⊥) → (fault ≡ load.Memory → ⊥) → IsErrorText (IsTableFile (Some folder)) (refusal_text folder fault) → refused (refusal_text folder fault)) →
    TellsInput failed refused why
load_input folder fault why failed refused tells fails refuses =
    input_more (λ name. (file : File) × (fault ≡ load.ReadFault file) × (name ≡ path folder file))
    (λ text. ((file : File) → fault ≡ load.ReadFault file → ⊥) × (fault ≡ load.Memory → ⊥) × (text ≡ refusal_text folder fault)) failed refused why
    (λ name w. subst failed (sym w.2) (fails w.0 w.1))
    (λ text w. subst refused (sym w.2) (refuses w.0 w.1 (load_text folder fault w.0 w.1))) tells

pub folder_refused : (told : Option Contents) (folder : List ℕ) (fault : LoadFault) → IsErrorText (IsTableFile (Some folder)) (refusal_text folder fault) →
    IfSome told (λ held. tables_of folder held ≡ Err fault) → IsLoadText told (Some folder) (refusal_text folder fault)
folder_refused told folder fault may is =
    (may, each told (λ held. tables_of folder held ≡ Err fault) (λ held. timetable_refusal (Some folder) held ≡ Some (refusal_text folder fault)) (λ held e. refused folder held fault e) is)

-- ---- a report with a timetable
module _ (report : Option Tables → Contents → Report) (folder : Option (List ℕ)) where
  -- where the timetable is had it is the report with its tables
  pub report_given : (told : Option Contents) (t : Timetable) → IfSome told (λ held. IsGiven folder held t) →
      IfSome told (λ held. report (tables_had t) held ≡ with_timetable report folder held)
  report_given told t is =
      each told (λ held. IsGiven folder held t) (λ held. report (tables_had t) held ≡ with_timetable report folder held)
      (λ held g. ap (λ u. report u held) (sym g.1) ∙ ap (λ text. unless_refused text (report (timetable_of folder held) held)) (sym g.0)) is

  -- and else why it isn't is told
  pub carried_unloaded : (reads : List ℕ → Type 0) (files later : FilesState) (out eb ea : SinkState) (result : Status) (why : InputFault) →
      ((name : List ℕ) → IsTableFile folder name → reads name) →
      TellsInput (FailsAt (IsTableFile folder) files later) (IsLoadText (contents_told files.told) folder) why →
      SaysInputFault why eb ea result → CarriesOut (exactly (with_timetable report folder)) reads (outside files out eb) (outside later out ea) result
  carried_unloaded reads files later out eb ea result why reading tells said =
      carried_input (with_timetable report folder) reads files later out eb ea result why
      (input_more (FailsAt (IsTableFile folder) files later) (IsLoadText (contents_told files.told) folder) (FailsAt reads files later)
      (λ text. IsErrorText reads text × IfSome (contents_told files.told) (λ held. with_timetable report folder held ≡ refused_input text)) why
      (λ name w. (reading name w.0, w.1, w.2))
      (λ text w. (
        error_text_more (IsTableFile folder) reads text reading w.0,
        each (contents_told files.told) (λ held. timetable_refusal folder held ≡ Some text) (λ held. with_timetable report folder held ≡ refused_input text)
            (λ held e. ap (λ text. unless_refused text (report (timetable_of folder held) held)) e) w.1,
      )) tells) said

-- where the timetable of a folder is refused that is the report
pub report_refused : (report : Option Tables → Contents → Report) (told : Option Contents) (folder : List ℕ) (fault : LoadFault) →
    IfSome told (λ held. tables_of folder held ≡ Err fault) → IfSome told (λ held. with_timetable report (Some folder) held ≡ refused_input (refusal_text folder fault))
report_refused report told folder fault is =
    each told (λ held. tables_of folder held ≡ Err fault) (λ held. with_timetable report (Some folder) held ≡ refused_input (refusal_text folder fault))
    (λ held e. ap (λ text. unless_refused text (report (timetable_of (Some folder) held) held)) (refused folder held fault e)) is

-- where the timetable is had the work is that with its tables
pub work_given : (work : Option Tables → Contents → Work) (folder : Option (List ℕ)) (told : Option Contents) (t : Timetable) → IfSome told (λ held. IsGiven folder held t) →
    IfSome told (λ held. work (tables_had t) held ≡ work_with_timetable work folder held)
work_given work folder told t is =
    each told (λ held. IsGiven folder held t) (λ held. work (tables_had t) held ≡ work_with_timetable work folder held)
    (λ held g. ap (λ u. work u held) (sym g.1) ∙ ap (λ text. work_unless_refused text (work (timetable_of folder held) held)) (sym g.0)) is
