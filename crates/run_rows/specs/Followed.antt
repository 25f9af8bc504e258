-- What the code holds while it follows rows: the invariants of its loop, of which the report in `Rows.antt` doesn't speak.
use Rattle.std.specs.Prelude.{◌≡◌, ℕ, ◌+◌, ◌<◌, Bool, true, List, ◌++◌, length, Option, Some, IfSome, Result, Ok, Err, slice_get}
use Rattle.std.specs.FinMap.{get}
use Rattle.std.specs.Io.KnownBytes.{append_known}
use Rattle.rt_outside.specs.Store.{Contents}
use Rattle.feed_codec.specs.declared.refusal.Refusal.{Refusal}
use Rattle.feed_list.specs.declared.row.SnapshotRow.{SnapshotRow}
use Rattle.timetable.specs.Timetables.{Tables}
use Rattle.rule_history.specs.History.{Snapshot}
use Rattle.rule_history.specs.Changed.{with}
use Rattle.rule_history.specs.Findings.{findings}
use Rattle.engine_laws.specs.Delta.{Delta, IsDelta}
use Rattle.engine_laws.specs.Standings.{Matches, StandsFor, renewed}
use Rattle.snapshot_lines.specs.Lines.{line_of, refused}
use Rattle.follow_engine.specs.declared.engine.Engine.{Engine}
use Rattle.follow_engine.specs.Deltas.{all_closed, all_opened}
use Rattle.follow_engine.specs.Engines.{engine_data}
use Rattle.run_base.specs.declared.fault.Fault.TheVariants as fault
use Rattle.run_base.specs.Counted.{Work}
use Rattle.run_rows.specs.declared.row.RowEnd.{RowEnd}
use Rattle.run_rows.specs.declared.row_lines.RowLines.{RowLines}
use Rattle.run_rows.specs.declared.rows.RowFault.{RowFault}
use Rattle.run_rows.specs.declared.telling.Telling.{Telling}
use Rattle.run_rows.specs.Counted.{row_work}
use Rattle.run_rows.specs.Rows.{Outcome, accepted_text, changes_text, taken, told_text, told_error}
use Rattle.run_base.specs.Found.{bytes_in}

-- an engine stands for a history with a timetable
abbrev pub Stands : Option Tables → Engine → List Snapshot → Type 0
Stands t engine h = StandsFor (engine_data engine) t h

-- the lines of a row: the first one, and behind it those of what opened and closed
abbrev pub lines_text : RowLines → List ℕ
lines_text lines = lines.first.items ++ changes_text (all_opened lines.opened) (all_closed lines.closed)

-- the lines on an accepted snapshot
pub record AreTold (telling : Telling) (number : ℕ) (row : SnapshotRow) (d : Delta) (lines : RowLines) : Type 0 where
  pub text_is : lines_text lines ≡ accepted_text number row d ++ told_text telling d
  pub error_is : lines.error ≡ told_error telling d

-- the engine and the lines after a row are its outcome
pub record IsOutcome (t : Option Tables) (o : Outcome) (end : RowEnd) : Type 0 where
  pub stands_for : Stands t end.engine o.after
  pub text_is : lines_text end.lines ≡ o.text
  pub error_is : end.lines.error ≡ o.error

-- An accepted snapshot was put at the end of each history that the engine matched or stood for; its numbers go on, and the lines are on what it
-- changed.
pub record TakesIn (telling : Telling) (number : ℕ) (row : SnapshotRow) (s : Snapshot) (engine : Engine) (end : RowEnd) : Type 0 where
  pub delta : Delta
  pub stands : (t : Option Tables) (h : List Snapshot) → Stands t engine h → Stands t end.engine (with h s)
  pub matches : (t : Option Tables) (h : List Snapshot) → Matches (engine_data engine) t h → Matches (engine_data end.engine) t (with h s)
  pub numbers : (t : Option Tables) (h : List Snapshot) → Matches (engine_data engine) t h → (engine_data end.engine).list ≡ renewed (engine_data engine).list (length h) (findings t (with h s))
  pub changes : (t : Option Tables) (h : List Snapshot) → Matches (engine_data engine) t h → IsDelta t h s (engine_data end.engine).list delta
  pub told : AreTold telling number row delta end.lines

-- a refused one is a line, and leaves the engine as it is
pub record TakesNot (number : ℕ) (why : Refusal) (engine : Engine) (end : RowEnd) : Type 0 where
  pub stays : end.engine ≡ engine
  pub text_is : lines_text end.lines ≡ line_of (refused number why)
  pub error_is : end.lines.error ≡ true

-- what was found in the file of a row was taken by an engine
abbrev pub Takes : Telling → ℕ → SnapshotRow → Result (List ℕ) Refusal → Engine → RowEnd → Type 0
Takes telling number row (Ok bytes) engine end = TakesIn telling number row (taken row bytes) engine end
Takes telling number row (Err why) engine end = TakesNot number why engine end

-- The counters rose by the work for what was found in a row's file, after each history that the engine matches. How they rose is
-- `RoseBy` or `RoseAtMost`.
abbrev pub RowCounts : (Work → Work → Work → Type 0) → Engine → SnapshotRow → Result (List ℕ) Refusal → (old new : Work) → Type 0
RowCounts rose engine row found old new = (t : Option Tables) (h : List Snapshot) → Matches (engine_data engine) t h → rose (row_work t h row found) old new

-- the snapshot of a row was judged: what was found in its file is what stands there, where that is told
pub record IsRowEnd (told : Option Contents) (telling : Telling) (number : ℕ) (row : SnapshotRow) (engine : Engine) (end : RowEnd) : Type 0 where
  pub found : Result (List ℕ) Refusal
  pub found_is : IfSome told (λ held. bytes_in (get held row.path) ≡ found)
  pub takes : Takes telling number row found engine end

-- after some rows: the engine stands for the history, and what was written is their lines
pub record IsDone (t : Option Tables) (engine : Engine) (error : Bool) (before now : Option (List ℕ)) (o : Outcome) : Type 0 where
  pub stands_for : Stands t engine o.after
  pub error_is : error ≡ o.error
  pub written : now ≡ append_known before o.text

-- the engine stands for a history of at most so many snapshots
pub record StandsWithin (t : Option Tables) (engine : Engine) (n : ℕ) : Type 0 where
  pub history : List Snapshot
  pub stands_for : Stands t engine history
  pub within : length history < n + 1

-- A fault came at a row whose file was the last asked for. A read fault comes where the count of the files rose, and a write
-- fault where that of the output did.
pub record IsRowFault (rows : List SnapshotRow) (last : Option (List ℕ)) (read_rose write_rose : Type 0) (why : RowFault) : Type 0 where
  pub row : SnapshotRow
  pub there : slice_get rows why.row ≡ Some row
  pub named : IfSome last (λ name. name ≡ row.path)
  pub read : why.fault ≡ fault.Read → read_rose
  pub write : why.fault ≡ fault.Write → write_rose
