-- The numbers of a list without timetables.
use Rattle.std.proofs.Common.{◌≡◌, ℕ, ◌+◌, List, [], ◌∷◌, length, refl, sym, ap, ◌∙◌, subst, Result, Ok, Err}
use Rattle.std.specs.declared.option.Option.{Option}
use Rattle.std.specs.List.{AllByRecursion}
use Rattle.rt_outside.specs.Store.{Contents}
use Rattle.feed_values.specs.Snapshot.{entity_payloads}
use Rattle.feed_codec.specs.declared.refusal.Refusal.{Refusal}
use Rattle.feed_list.specs.declared.row.ListRow.{ListRow}
use Rattle.feed_list.specs.declared.row.ListRow.TheVariants as row
use Rattle.feed_list.specs.declared.row.SnapshotRow.{SnapshotRow}
use Rattle.timetable.specs.Timetables.{Tables}
use Rattle.rule_history.specs.History.{Snapshot, feed_limit}
use Rattle.rule_history.specs.Findings.{findings}
use Rattle.rule_history.specs.Changed.{with, tested, paired, bounded, peaked}
use Rattle.rule_history.specs.Standing.{Standing, closed, opened}
use Rattle.engine_laws.specs.Computed.{delta_after, standings}
use Rattle.engine_laws.specs.Delta.{Delta}
use Rattle.engine_laws.specs.Standings.{IsListOf, renewed}
use Rattle.engine_laws.proofs.Computed.{list_is_computed}
use Rattle.engine_laws.proofs.Proved.{list_goes_on, no_findings}
use Rattle.run_base.specs.Found.{bytes_in}
use Rattle.run_rows.specs.Rows.{taken}
use Rattle.run_list.specs.Laws.{IsSnapshotRow, NumbersAreSince, since_state}
use Rattle.run_list.specs.Listed.{Outcome, State, change_of, input_in, list_outcome, row_outcome, rows_from, snapshot_outcome, started, with_snapshot}

-- a state with this timetable, whose list is that of its history
record IsSound (t : Option Tables) (st : State) : Type 0 where
  table_is : st.table ≡ t
  list_is : IsListOf t st.history st.list

sound_started : (t : Option Tables) → IsSound t (started t)
sound_started t = record { table_is = refl; list_is = record { found = sym (no_findings t feed_limit); since = tt } }

sound_after : (t : Option Tables) (st : State) (n : ℕ) (row : SnapshotRow) (found : Result (List ℕ) Refusal) → IsSound t st → IsSound t (let o : Outcome = snapshot_outcome st n row found in o.after)
sound_after t st n row (Err why) sound = sound
sound_after t st n row (Ok bytes) sound = record {
  table_is = sound.table_is;
  list_is = subst (λ u. IsListOf t (with st.history (taken row bytes)) (renewed st.list (length st.history) (findings u (with st.history (taken row bytes))))) (sym sound.table_is)
      (list_goes_on t st.history (taken row bytes) st.list sound.list_is);
}

sound_rows : (t : Option Tables) (held : Contents) (st : State) (n : ℕ) (rows : List ListRow) → AllByRecursion IsSnapshotRow rows → IsSound t st → IsSound t (let o : Outcome = rows_from held st n rows in o.after)
sound_rows t held st n [] all sound = sound
sound_rows t held st n (row.Snapshot r ∷ rows) all sound =
    let o : Outcome = row_outcome st n (row.Snapshot r) (input_in (row.Snapshot r) held) in
    sound_rows t held o.after (n + 1) rows all.1 (sound_after t st n r (input_in (row.Snapshot r) held) sound)
sound_rows t held st n (row.Timetable folder ∷ rows) all sound = absurd all.0

abbrev state : Option Tables → List Snapshot → List Standing → State
state t h list = record { table = t; history = h; list = list }

since_sound : (t : Option Tables) (st : State) → IsSound t st → st ≡ since_state t st.history
since_sound t st sound =
    ap (λ u. state u st.history st.list) sound.table_is
    ∙ ap (state t st.history) (list_is_computed.is_only t st.history st.list sound.list_is)

change_since : (t : Option Tables) (h : List Snapshot) (s : Snapshot) → change_of (since_state t h) s ≡ delta_after t h s
change_since t h s =
    ap (λ list. let d : Delta = record {
      snapshot = length h;
      entities = length (entity_payloads s.bytes);
      opened = opened (findings t h) list;
      closed = closed (findings t h) (findings t (with h s));
      tested = tested h s;
      paired = paired h s;
      bounded = bounded t h s;
      peaked = peaked h s;
    } in d) (list_is_computed.is_only t (with h s) (renewed (standings t h) (length h) (findings t (with h s))) (list_goes_on t h s (standings t h) (list_is_computed.is_list t h)))

pub numbers_are_since : NumbersAreSince
numbers_are_since = record {
  state_is = λ t held rows all. since_sound t (let o : Outcome = list_outcome t held rows in o.after) (sound_rows t held (started t) 0 rows all (sound_started t));
  change_is = change_since;
}
