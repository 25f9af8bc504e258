-- What a list of snapshots and timetables comes to, row after row. (This profile.)
use Rattle.std.specs.Prelude.{ℕ, ◌+◌, ◌-◌, ◌*◌, Bool, true, false, ◌||◌, List, [], ◌∷◌, ◌++◌, length, Option, Some, Result, Ok, Err}
use Rattle.std.specs.FinMap.{get}
use Rattle.rt_outside.specs.Store.{Contents}
use Rattle.feed_values.specs.Snapshot.{entity_payloads}
use Rattle.feed_codec.specs.declared.refusal.Refusal.{Refusal}
use Rattle.feed_list.specs.declared.row.ListRow.{ListRow}
use Rattle.feed_list.specs.declared.row.ListRow.TheVariants as row
use Rattle.feed_list.specs.declared.row.SnapshotRow.{SnapshotRow}
use Rattle.timetable.specs.Timetables.{Tables, tables_of}
use Rattle.timetable.specs.declared.LoadFault.{LoadFault}
use Rattle.rule_table.specs.Found.{Found}
use Rattle.rule_history.specs.History.{Snapshot}
use Rattle.rule_history.specs.Findings.{findings}
use Rattle.rule_history.specs.Changed.{with, tested, paired, bounded, peaked}
use Rattle.rule_history.specs.Standing.{Spot, Standing, opened, closed}
use Rattle.engine_laws.specs.Delta.{Delta}
use Rattle.engine_laws.specs.Standings.{renewed}
use Rattle.timetable_exchange.specs.Retested.{entities_after, retested}
use Rattle.rt_report.specs.FindingLines.{any_error}
use Rattle.snapshot_lines.specs.Lines.{line_of, refused, exchanged, refused_timetable}
use Rattle.run_base.specs.Counted.{Work, counters, no_work, plus}
use Rattle.run_base.specs.Found.{bytes_in}
use Rattle.run_timetable.specs.Timetables.{why_refused}
use Rattle.run_rows.specs.Counted.{work_of}
use Rattle.run_rows.specs.Rows.{accepted_text, changes_text, taken}

-- the timetable in force, the snapshots so far, and what is found, each finding with the number of the snapshot since which its rule is told to stand
pub record State : Type 0 where
  pub table : Option Tables
  pub history : List Snapshot
  pub list : List Standing

abbrev pub started : Option Tables → State
started t = record { table = t; history = []; list = [] }

-- what is found there
abbrev pub found_in : State → List Found
found_in st = findings st.table st.history

-- ---- one row
-- one more snapshot: a rule at a place keeps its number, and one that is new there has the number of the snapshot
abbrev pub with_snapshot : State → Snapshot → State
with_snapshot st s = record { table = st.table; history = with st.history s; list = renewed st.list (length st.history) (findings st.table (with st.history s)) }

-- Another timetable over the same snapshots: a rule at a place keeps its number, and one that is new there has the number of the last snapshot.
abbrev pub with_timetable : State → Tables → State
with_timetable st u = record { table = Some u; history = st.history; list = renewed st.list (length st.history - 1) (findings (Some u) st.history) }

-- what opened and closed between two states
abbrev pub opened_by : State → State → List Standing
opened_by before after = opened (found_in before) after.list

abbrev pub closed_by : State → State → List Spot
closed_by before after = closed (found_in before) (found_in after)

-- what a snapshot changes
abbrev pub change_of : State → Snapshot → Delta
change_of st s = record {
  snapshot = length st.history;
  entities = length (entity_payloads s.bytes);
  opened = opened_by st (with_snapshot st s);
  closed = closed_by st (with_snapshot st s);
  tested = tested st.history s;
  paired = paired st.history s;
  bounded = bounded st.table st.history s;
  peaked = peaked st.history s;
}

-- what rows give: their lines, the state after them, whether something was refused or an error opened, and how much is decoded and tested
pub record Outcome : Type 0 where
  pub text : List ℕ
  pub after : State
  pub error : Bool
  pub work : Work

-- a refusal is its line, and leaves all as it is
abbrev pub refusal_told : State → List ℕ → Outcome
refusal_told st line = record { text = line; after = st; error = true; work = no_work }

-- an accepted snapshot is put at the end of the history
abbrev pub snapshot_outcome : State → ℕ → SnapshotRow → Result (List ℕ) Refusal → Outcome
snapshot_outcome st number row (Err why) = refusal_told st (line_of (refused number why))
snapshot_outcome st number row (Ok bytes) =
    let s : Snapshot = taken row bytes in
    let d : Delta = change_of st s in
    record {
      text = accepted_text number row d ++ changes_text d.opened d.closed;
      after = with_snapshot st s;
      error = any_error d.opened;
      work = work_of st.table st.history s;
    }

-- An accepted timetable takes the place of the one before it. The entities for which the two don't agree are tested again, 40 rules at each.
abbrev pub exchange_text : ℕ → State → Tables → List ℕ
exchange_text number st u =
    let next : State = with_timetable st u in
    line_of (exchanged (record { row = number; entities = length (entities_after st.history); retested = retested st.table (Some u) st.history }))
    ++ changes_text (opened_by st next) (closed_by st next)

abbrev pub exchange_outcome : State → ℕ → Tables → Outcome
exchange_outcome st number u = record {
  text = exchange_text number st u;
  after = with_timetable st u;
  error = any_error (opened_by st (with_timetable st u));
  work = counters 0 (40 * retested st.table (Some u) st.history);
}

abbrev pub timetable_outcome : State → ℕ → List ℕ → Result Tables LoadFault → Outcome
timetable_outcome st number folder (Err why) = refusal_told st (line_of (refused_timetable number (why_refused folder why)))
timetable_outcome st number folder (Ok u) = exchange_outcome st number u

-- what stands in the file of a snapshot's row, or in the folder of a timetable's
abbrev pub Input : ListRow → Type 0
Input (row.Snapshot row) = Result (List ℕ) Refusal
Input (row.Timetable folder) = Result Tables LoadFault

abbrev pub input_in : (row : ListRow) → Contents → Input row
input_in (row.Snapshot row) held = bytes_in (get held row.path)
input_in (row.Timetable folder) held = tables_of folder held

abbrev pub row_outcome : State → ℕ → (row : ListRow) → Input row → Outcome
row_outcome st number (row.Snapshot row) found = snapshot_outcome st number row found
row_outcome st number (row.Timetable folder) found = timetable_outcome st number folder found

-- ---- all rows
-- one outcome and then another
abbrev pub then : Outcome → Outcome → Outcome
then o p = record { text = o.text ++ p.text; after = p.after; error = o.error || p.error; work = plus o.work p.work }

abbrev pub no_rows : State → Outcome
no_rows st = record { text = []; after = st; error = false; work = no_work }

-- the rows of a list from one with this number on
abbrev pub rows_from : Contents → State → ℕ → List ListRow → Outcome
rows_from held st number [] = no_rows st
rows_from held st number (row ∷ rows) =
    let o : Outcome = row_outcome st number row (input_in row held) in
    then o (rows_from held o.after (number + 1) rows)

-- all rows of a list, of which the first counts as 0, with the timetable that a command gave
abbrev pub list_outcome : Option Tables → Contents → List ListRow → Outcome
list_outcome t held rows = rows_from held (started t) 0 rows
