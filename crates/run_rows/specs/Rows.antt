-- What is told of snapshots that are taken one after the other. (This profile.)
use Rattle.std.specs.Prelude.{ℕ, ◌+◌, ◌<◌, ◌≤◌, length, Bool, true, false, ◌||◌, List, [], ◌∷◌, ◌++◌, map, Option, Result, Ok, Err}
use Rattle.std.specs.List.{AllByRecursion, flat_map}
use Rattle.std.specs.FinMap.{get}
use Rattle.rt_outside.specs.Store.{Contents}
use Rattle.feed_codec.specs.declared.refusal.Refusal.{Refusal}
use Rattle.run_base.specs.Found.{bytes_in}
use Rattle.timetable.specs.Timetables.{Tables}
use Rattle.feed_list.specs.Lists.{row_limit}
use Rattle.feed_list.specs.declared.row.SnapshotRow.{SnapshotRow}
use Rattle.rule_history.specs.History.{Snapshot}
use Rattle.rule_history.specs.Changed.{with}
use Rattle.rule_history.specs.Standing.{Spot, Standing}
use Rattle.engine_laws.specs.Computed.{delta_after}
use Rattle.engine_laws.specs.Delta.{Delta}
use Rattle.snapshot_lines.specs.Lines.{line_of, accepted, refused}
use Rattle.rt_report.specs.declared.finding.LineKind.TheVariants as line
use Rattle.run_rows.specs.declared.telling.Telling.{Telling}
use Rattle.run_rows.specs.declared.telling.Telling.TheVariants.{Counts, Changes}
use Rattle.rt_report.specs.FindingLines.{standing_text, closed_text, any_error}

-- what rows give: their lines, the history after them, and whether a snapshot was refused or an error opened
pub record Outcome : Type 0 where
  pub text : List ℕ
  pub after : List Snapshot
  pub error : Bool

-- the snapshot of a row, whose file has these bytes
abbrev pub taken : SnapshotRow → List ℕ → Snapshot
taken row bytes = record { feed = row.feed; moment = row.moment; bytes = bytes }

-- the line of an accepted snapshot, and what stands behind it: what it opened and what it closed, where that is told
abbrev pub accepted_text : ℕ → SnapshotRow → Delta → List ℕ
accepted_text number row d = line_of (accepted (record {
  feed = row.feed;
  row = number;
  snapshot = d.snapshot;
  moment = row.moment;
  entities = d.entities;
  tested = d.tested;
  paired = d.paired;
  bounded = d.bounded;
  peaked = d.peaked;
}))

-- what opened, and behind it what closed
abbrev pub changes_text : List Standing → List Spot → List ℕ
changes_text opened closed = flat_map (standing_text line.Opened) opened ++ flat_map closed_text closed

abbrev pub told_text : Telling → Delta → List ℕ
told_text Counts d = []
told_text Changes d = changes_text d.opened d.closed

abbrev pub told_error : Telling → Delta → Bool
told_error Counts d = false
told_error Changes d = any_error d.opened

-- A row, by its number from 0, after a history: an accepted snapshot is put at the history's end, and a refused one leaves it
-- as it is.
abbrev pub row_outcome : Telling → Option Tables → List Snapshot → ℕ → SnapshotRow → Result (List ℕ) Refusal → Outcome
row_outcome telling t h number row (Err why) = record { text = line_of (refused number why); after = h; error = true }
row_outcome telling t h number row (Ok bytes) =
    let d = delta_after t h (taken row bytes) in
    record { text = accepted_text number row d ++ told_text telling d; after = with h (taken row bytes); error = told_error telling d }

-- one outcome and then another
abbrev pub then : Outcome → Outcome → Outcome
then o p = record { text = o.text ++ p.text; after = p.after; error = o.error || p.error }

abbrev pub no_rows : List Snapshot → Outcome
no_rows h = record { text = []; after = h; error = false }

-- the rows of a list from one with this number on, after a history
abbrev pub rows_from : Telling → Option Tables → Contents → List Snapshot → ℕ → List SnapshotRow → Outcome
rows_from telling t contents h number [] = no_rows h
rows_from telling t contents h number (row ∷ rows) =
    let o : Outcome = row_outcome telling t h number row (bytes_in (get contents row.path)) in
    then o (rows_from telling t contents o.after (number + 1) rows)

-- all rows of a list
abbrev pub all_rows : Telling → Option Tables → Contents → List SnapshotRow → Outcome
all_rows telling t contents rows = rows_from telling t contents [] 0 rows

-- rows that can be taken are few, each of a feed that there may be
pub record AreWithinLimits (rows : List SnapshotRow) : Type 0 where
  pub few : length rows ≤ row_limit
  pub feeds : AllByRecursion (λ row. row.feed < 16) rows

-- the files of rows
abbrev pub paths_of : List SnapshotRow → List (List ℕ)
paths_of rows = map (λ row. row.path) rows
