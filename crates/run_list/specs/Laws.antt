-- A law of the numbers in a list's report.
use Rattle.std.specs.Prelude.{◌≡◌, List, Option}
use Rattle.std.specs.List.{AllByRecursion}
use Rattle.rt_outside.specs.Store.{Contents}
use Rattle.feed_list.specs.declared.row.ListRow.{ListRow}
use Rattle.feed_list.specs.declared.row.ListRow.TheVariants as row
use Rattle.timetable.specs.Timetables.{Tables}
use Rattle.rule_history.specs.History.{Snapshot}
use Rattle.engine_laws.specs.Computed.{delta_after, standings}
use Rattle.run_list.specs.Listed.{Outcome, State, change_of, list_outcome}

-- a row that has a snapshot
abbrev pub IsSnapshotRow : ListRow → Type 0
IsSnapshotRow (row.Snapshot row) = Unit {0}
IsSnapshotRow (row.Timetable folder) = ⊥

-- the state after a history, where each finding has the number since when its rule stands at its place
abbrev pub since_state : Option Tables → List Snapshot → State
since_state t h = record { table = t; history = h; list = standings t h }

-- Where no timetable comes, the state after rows is that of the history after them, so each number is that since when the rule stands; and what a
-- snapshot changes in such a state is what it changes after the history.
pub record NumbersAreSince : Type 0 where
  pub state_is : (t : Option Tables) (held : Contents) (rows : List ListRow) → AllByRecursion IsSnapshotRow rows → (let o : Outcome = list_outcome t held rows in o.after ≡ since_state t o.after.history)
  pub change_is : (t : Option Tables) (h : List Snapshot) (s : Snapshot) → change_of (since_state t h) s ≡ delta_after t h s
