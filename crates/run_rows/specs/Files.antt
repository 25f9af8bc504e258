-- The snapshots of several files, each of a feed of its own, and what is told behind their lines. (This profile.)
use Rattle.std.specs.Prelude.{◌≡◌, ◌≢◌, ℕ, ◌+◌, Bool, ◌||◌, List, [], ◌∷◌, ◌++◌, ◌⊎◌, Contains, Option}
use Rattle.std.specs.Io.KnownBytes.{append_known}
use Rattle.rt_outside.specs.Causes.{Rose}
use Rattle.rt_outside.specs.Sink.{AppendsPrefix, SinkState}
use Rattle.rt_outside.specs.Store.{Contents}
use Rattle.feed_list.specs.declared.row.SnapshotRow.{SnapshotRow}
use Rattle.timetable.specs.Timetables.{Tables}
use Rattle.rule_history.specs.History.{Snapshot}
use Rattle.run_base.specs.declared.fault.Fault.{Fault}
use Rattle.run_base.specs.declared.fault.Fault.TheVariants as fault
use Rattle.run_base.specs.declared.status.Status.{Status}
use Rattle.run_base.specs.Carried.{CarriesOut, exactly}
use Rattle.run_base.specs.Faults.{SaysFault}
use Rattle.run_base.specs.Outside.{Outside}
use Rattle.run_base.specs.Report.{Report, found}
use Rattle.run_rows.specs.declared.telling.Telling.TheVariants.{Counts}
use Rattle.run_rows.specs.Rows.{Outcome, all_rows}

-- files as rows: a feed for each, and one moment for all
abbrev pub file_rows : ℕ → ℕ → List (List ℕ) → List SnapshotRow
file_rows feed moment [] = []
file_rows feed moment (file ∷ files) = record { feed = feed; moment = moment; path = file } ∷ file_rows (feed + 1) moment files

-- what the files give: a line for each snapshot, accepted or refused
abbrev pub files_outcome : Option Tables → ℕ → List (List ℕ) → Contents → Outcome
files_outcome t moment files contents = all_rows Counts t contents (file_rows 0 moment files)

-- ---- behind the lines
-- a text, and whether it tells of an error
pub record Ending : Type 0 where
  pub text : List ℕ
  pub error : Bool

-- the report on snapshots: behind their lines stands the ending that the history after them has
abbrev pub ended : (List Snapshot → Ending) → Outcome → Report
ended ending o = record {
  text = o.text ++ (ending o.after).text;
  errors = [];
  status = found (o.error || (ending o.after).error);
}

-- that on files
abbrev pub files_ended : (List Snapshot → Ending) → Option Tables → ℕ → List (List ℕ) → Contents → Report
files_ended ending t moment files contents = ended ending (files_outcome t moment files contents)

-- A fault was told while the lines of files were written. Whatever is to stand behind them, a part of the report was written.
abbrev pub IsCutOff : Option Tables → ℕ → List (List ℕ) → Outside → Outside → Status → Type 0
IsCutOff t moment files before after result =
    (ending : List Snapshot → Ending) → CarriesOut (exactly (files_ended ending t moment files)) (Contains files) before after result

-- ---- an ending is written
-- it was written whole, and the answer is that of it and of whether an error was told before
pub record AllTold (ending : Ending) (error : Bool) (out new : SinkState) (err told : SinkState) (result : Status) : Type 0 where
  pub written : new.written ≡ append_known out.written ending.text
  pub answer : result ≡ found (error || ending.error)
  pub silent : told ≡ err

-- it wasn't, or not all of it, and why is told; no file is read for it
pub record SomeTold (ending : Ending) (out new : SinkState) (err told : SinkState) (result : Status) : Type 0 where
  pub part : AppendsPrefix out.written new.written ending.text
  pub why : Fault
  pub not_read : why ≢ fault.Read
  pub write : why ≡ fault.Write → Rose out.faults new.faults
  pub says : SaysFault why [] err told result

abbrev pub EndsWith : Ending → Bool → SinkState → SinkState → SinkState → SinkState → Status → Type 0
EndsWith ending error out new err told result = AllTold ending error out new err told result ⊎ SomeTold ending out new err told result
