-- What the code holds while it follows a list: what is said of one row, and the invariant of the loop, of which `Listed.antt` doesn't speak.
use Rattle.std.specs.Prelude.{◌≡◌, ℕ, ◌+◌, ◌<◌, Bool, List, ◌++◌, length, Option, IfSome, Result}
use Rattle.std.specs.Io.KnownBytes.{append_known}
use Rattle.rt_outside.specs.Store.{Contents}
use Rattle.feed_list.specs.declared.row.ListRow.{ListRow}
use Rattle.timetable.specs.Timetables.{Tables, tables_of}
use Rattle.timetable.specs.declared.LoadFault.{LoadFault}
use Rattle.rule_history.specs.History.{Snapshot}
use Rattle.rule_history.specs.Standing.{Spot, Standing}
use Rattle.engine_laws.specs.Standings.{Matches}
use Rattle.snapshot_lines.specs.Lines.{exchanged, line_of}
use Rattle.rt_report.specs.FindingLines.{any_error}
use Rattle.run_rows.specs.follow_engine.Engine.{Engine}
use Rattle.run_rows.specs.follow_engine.Engines.{engine_data}
use Rattle.run_base.specs.Counted.{Work}
use Rattle.run_rows.specs.declared.row.RowEnd.{RowEnd}
use Rattle.run_rows.specs.declared.row_lines.RowLines.{RowLines}
use Rattle.run_rows.specs.Followed.{lines_text}
use Rattle.run_rows.specs.Rows.{changes_text}
use Rattle.run_list.specs.Listed.{Input, Outcome, State, input_in, row_outcome, timetable_outcome}

-- an engine is in a state: it matches the history with the timetable in force, and its list is the state's, with the numbers
pub record IsIn (st : State) (engine : Engine) : Type 0 where
  pub matches : Matches (engine_data engine) st.table st.history
  pub list_is : (engine_data engine).list ≡ st.list

-- the engine and the lines after a row are its outcome
pub record IsOutcome (o : Outcome) (end : RowEnd) : Type 0 where
  pub is_in : IsIn o.after end.engine
  pub text_is : lines_text end.lines ≡ o.text
  pub error_is : end.lines.error ≡ o.error

-- so in each state that the engine was in
abbrev pub Gives : (State → Outcome) → Engine → RowEnd → Type 0
Gives outcome engine end = (st : State) → IsIn st engine → IsOutcome (outcome st) end

-- and the counters rose by the work, as `rose` says: `RoseBy` or `RoseAtMost`
abbrev pub Counts : (Work → Work → Work → Type 0) → (State → Outcome) → Engine → (old new : Work) → Type 0
Counts rose outcome engine old new = (st : State) → IsIn st engine → rose (outcome st).work old new

-- the lines on an accepted timetable: its own, and what it opened and closed
pub record TellsExchange (number entities retested : ℕ) (opens : List Standing) (closes : List Spot) (lines : RowLines) : Type 0 where
  pub text_is : lines_text lines ≡ line_of (exchanged (record { row = number; entities = entities; retested = retested })) ++ changes_text opens closes
  pub error_is : lines.error ≡ any_error opens

-- what was found in the folder of a timetable took its place: it is what stands there, where that is told
pub record IsTableEnd (told : Option Contents) (number : ℕ) (folder : List ℕ) (engine : Engine) (end : RowEnd) : Type 0 where
  pub found : Result Tables LoadFault
  pub found_is : IfSome told (λ held. tables_of folder held ≡ found)
  pub gives : Gives (λ st. timetable_outcome st number folder found) engine end

-- what was found for a row gave this: it is what stands there, where that is told
pub record IsRowEnd (told : Option Contents) (number : ℕ) (row : ListRow) (engine : Engine) (end : RowEnd) : Type 0 where
  pub found : Input row
  pub found_is : IfSome told (λ held. input_in row held ≡ found)
  pub gives : Gives (λ st. row_outcome st number row found) engine end

-- after some rows: the engine is in the state, and what was written is their lines
pub record IsDone (engine : Engine) (error : Bool) (before now : Option (List ℕ)) (o : Outcome) : Type 0 where
  pub is_in : IsIn o.after engine
  pub error_is : error ≡ o.error
  pub written : now ≡ append_known before o.text

-- the engine is in a state of fewer than n + 1 snapshots
pub record IsInWithin (engine : Engine) (n : ℕ) : Type 0 where
  pub state : State
  pub is_in : IsIn state engine
  pub within : length state.history < n + 1
