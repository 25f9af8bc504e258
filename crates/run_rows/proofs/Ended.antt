-- What is written behind the lines of snapshots.
use Rattle.std.proofs.Common.{◌≡◌, ℕ, ◌≤◌, inl, inr, Bool, true, false, ◌||◌, List, [], refl, sym, ap, ◌∙◌, subst, Some, None, IfSome}
use Rattle.std.specs.declared.option.Option.{Option}
use Rattle.std.specs.List.{Contains}
use Rattle.std.specs.Io.KnownBytes.{append_known}
use Rattle.rt_outside.specs.Sink.{AppendsPrefix, SinkState}
use Rattle.rt_outside.specs.Store.{Contents, contents_told}
use Rattle.rt_outside.proofs.Appends.{append_known-both, AppendsPrefix-first, AppendsPrefix-second}
use Rattle.feed_list.specs.declared.row.SnapshotRow.{SnapshotRow}
use Rattle.timetable.specs.Timetables.{Tables}
use Rattle.rule_history.specs.History.{Snapshot}
use Rattle.follow_engine.specs.declared.engine.Engine.{Engine}
use Rattle.run_base.specs.declared.status.Status.{Status}
use Rattle.run_base.specs.Carried.{CarriesOut, exactly}
use Rattle.run_base.specs.Faults.{IsCarriedOut}
use Rattle.run_base.specs.Outside.{Outside}
use Rattle.run_base.specs.Report.{Report, found}
use Rattle.run_base.proofs.Carried.{carried_other_fault}
use Rattle.run_base.proofs.Chosen.{each, carried_done, rose_later}
use Rattle.run_rows.specs.declared.telling.Telling.TheVariants.{Counts}
use Rattle.run_rows.specs.Files.{AllTold, Ending, EndsWith, IsCutOff, SomeTold, ended, file_rows, files_ended, files_outcome}
use Rattle.run_rows.specs.Followed.{IsDone, Stands}
use Rattle.run_rows.specs.Rows.{Outcome, all_rows, paths_of}
use Rattle.run_rows.proofs.FileRows.{paths_are}

-- a part of the lines of snapshots is a part of the report
pub lines_part : (told : Option Contents) (ending : List Snapshot → Ending) (outcome : Contents → Outcome) (before now : Option (List ℕ)) →
    IfSome told (λ held. AppendsPrefix before now (outcome held).text) → IfSome told (λ held. AppendsPrefix before now (let r : Report = ended ending (outcome held) in r.text))
lines_part None ending outcome before now p = tt
lines_part (Some held) ending outcome before now p = AppendsPrefix-first before now (outcome held).text _ p

-- what cuts off the rows of files cuts off the files
pub files_cut_off : (t : Option Tables) (moment : ℕ) (files : List (List ℕ)) (rows : List SnapshotRow) (before after : Outside) (result : Status) → rows ≡ file_rows 0 moment files →
    ((ending : List Snapshot → Ending) → CarriesOut (exactly (λ held. ended ending (all_rows Counts t held rows))) (Contains (paths_of rows)) before after result) → IsCutOff t moment files before after result
files_cut_off t moment files rows before after result are cut ending =
    subst (λ names. CarriesOut (exactly (files_ended ending t moment files)) (Contains names) before after result) (paths_are 0 moment files)
    (subst (λ rows. CarriesOut (exactly (λ held. ended ending (all_rows Counts t held rows))) (Contains (paths_of rows)) before after result) are (cut ending))

-- the answer that is given where errors were found, and where none, is that of a request that was carried out
carried_out : (error : Bool) (result : Status) → result ≡ found error → IsCarriedOut result
carried_out true result e = subst IsCarriedOut (sym e) tt
carried_out false result e = subst IsCarriedOut (sym e) tt

-- ---- snapshots that were taken, and then the ending of the engine that holds them
module _ (t : Option Tables) (engine : Engine) (error : Bool) (before mid now : Option (List ℕ)) (o : Outcome) (done : IsDone t engine error before mid o) (ending : List Snapshot → Ending) (end : Ending)
    (is : end ≡ ending o.after) where
  text_is : now ≡ append_known mid end.text → now ≡ append_known before (let r : Report = ended ending o in r.text)
  text_is e = append_known-both before mid now o.text (ending o.after).text done.written (e ∙ ap (λ x. append_known mid x.text) is)

  part_is : AppendsPrefix mid now end.text → AppendsPrefix before now (let r : Report = ended ending o in r.text)
  part_is p = AppendsPrefix-second before mid now o.text (ending o.after).text done.written (subst (λ x. AppendsPrefix mid now x.text) is p)

  status_is : (result : Status) → result ≡ found (error || end.error) → result ≡ (let r : Report = ended ending o in r.status)
  status_is result e = e ∙ ap (λ b. found (b || end.error)) done.error_is ∙ ap (λ x. found (o.error || x.error)) is

module _ (ending : List Snapshot → Ending) (t : Option Tables) (moment : ℕ) (files : List (List ℕ)) (before after : Outside) (mid : SinkState) (engine : Engine) (error : Bool) (end : Ending) (result : Status)
    (done : IfSome (contents_told before.files.told) (λ held. IsDone t engine error before.out.written mid.written (files_outcome t moment files held)))
    (later : before.out.faults ≤ mid.faults) (is : (h : List Snapshot) → Stands t engine h → end ≡ ending h) where
  abbrev report : Contents → Report
  report held = files_ended ending t moment files held

  abbrev outcome : Contents → Outcome
  outcome held = files_outcome t moment files held

  abbrev IsPut : Report → Type 0
  IsPut r = (after.out.written ≡ append_known before.out.written r.text) × (result ≡ r.status) × (r.errors ≡ [])

  all_told : AllTold end error mid after.out before.err after.err result → CarriesOut (exactly report) (Contains files) before after result
  all_told a =
      carried_done report (Contains files) before after result (carried_out _ result a.answer) a.silent
      (each (contents_told before.files.told) _ (λ held. IsPut (report held))
      (λ held d. (
        text_is t engine error before.out.written mid.written after.out.written (outcome held) d ending end (is (outcome held).after d.stands_for) a.written,
        status_is t engine error before.out.written mid.written after.out.written (outcome held) d ending end (is (outcome held).after d.stands_for) result a.answer,
        refl,
      )) done)

  some_told : SomeTold end mid after.out before.err after.err result → CarriesOut (exactly report) (Contains files) before after result
  some_told s =
      carried_other_fault report (Contains files) before after result
      (each (contents_told before.files.told) _ (λ held. AppendsPrefix before.out.written after.out.written (report held).text)
      (λ held d. part_is t engine error before.out.written mid.written after.out.written (outcome held) d ending end (is (outcome held).after d.stands_for) s.part) done)
      s.why [] s.not_read (λ e. rose_later _ _ _ later (s.write e)) s.says

  at_end : EndsWith end error mid after.out before.err after.err result → CarriesOut (exactly report) (Contains files) before after result
  at_end (inl a) = all_told a
  at_end (inr s) = some_told s

  -- nothing was told of the lines, and the ending was written, or it is told why not
  pub told_ended : (err : SinkState) → err ≡ before.err → EndsWith end error mid after.out err after.err result → CarriesOut (exactly report) (Contains files) before after result
  told_ended err silent ends = at_end (subst (λ e. EndsWith end error mid after.out e after.err result) silent ends)
