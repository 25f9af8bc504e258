-- How much is decoded and tested for the snapshots of rows. (This profile.)
use Rattle.std.specs.Prelude.{ℕ, List, [], ◌∷◌, Option, Result, Ok, Err}
use Rattle.rt_outside.specs.Store.{Contents}
use Rattle.feed_codec.specs.declared.refusal.Refusal.{Refusal}
use Rattle.feed_list.specs.declared.row.SnapshotRow.{SnapshotRow}
use Rattle.timetable.specs.Timetables.{Tables}
use Rattle.rule_history.specs.History.{Snapshot}
use Rattle.rule_history.specs.Changed.{tested, with}
use Rattle.follow_engine.specs.Followed.{tests_of}
use Rattle.run_base.specs.Counted.{Work, counters, no_work, plus}
use Rattle.run_rows.specs.Files.{files_outcome}
use Rattle.run_rows.specs.Rows.{Outcome, taken}

-- for a snapshot that comes after a history: each entity that is tested is decoded
abbrev pub work_of : Option Tables → List Snapshot → Snapshot → Work
work_of t h s = counters (tested h s) (tests_of t h s)

-- for snapshots that come one after the other, after a history
abbrev pub work_after : Option Tables → List Snapshot → List Snapshot → Work
work_after t h [] = no_work
work_after t h (s ∷ ss) = plus (work_of t h s) (work_after t (with h s) ss)

-- for all of a history
abbrev pub history_work : Option Tables → List Snapshot → Work
history_work t h = work_after t [] h

-- for rows, by what they give: for the accepted snapshots, which are the history after them
abbrev pub outcome_work : Option Tables → Outcome → Work
outcome_work t o = history_work t o.after

-- for files, each the snapshot of a feed of its own, at one moment
abbrev pub files_work : Option Tables → ℕ → List (List ℕ) → Contents → Work
files_work t moment files contents = outcome_work t (files_outcome t moment files contents)

-- for a row after a history: for a refused snapshot nothing is decoded or tested
abbrev pub row_work : Option Tables → List Snapshot → SnapshotRow → Result (List ℕ) Refusal → Work
row_work t h row (Err why) = no_work
row_work t h row (Ok bytes) = work_of t h (taken row bytes)
