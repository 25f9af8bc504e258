-- What a row gives in a state.
use Rattle.std.proofs.Common.{◌≡◌, ℕ, ◌+◌, ◌-◌, ◌*◌, ◌<◌, ◌++◌, List, [], ◌∷◌, length, length-append, refl, sym, ap, ◌∙◌, subst, arith, ◌≤◌, true, cond, Some, None, OnOk, IfSome, Result, Ok, Err}
use Rattle.std.specs.declared.option.Option.{Option}
use Rattle.std.specs.List.{Contains}
use Rattle.rt_outside.specs.Store.{Contents}
use Rattle.feed_codec.specs.declared.refusal.Refusal.{Refusal}
use Rattle.feed_list.specs.declared.row.ListRow.{ListRow}
use Rattle.feed_list.specs.declared.row.ListRow.TheVariants as row
use Rattle.feed_list.specs.declared.row.SnapshotRow.{SnapshotRow}
use Rattle.timetable.specs.Lookups.{is_present, tables_in}
use Rattle.timetable.specs.Timetables.{Tables, tables_of}
use Rattle.timetable.specs.declared.LoadFault.{LoadFault}
use Rattle.timetable.specs.declared.timetable.Timetable.{Timetable}
use Rattle.rule_history.specs.Answered.{tables_of as tables_held}
use Rattle.rule_history.specs.History.{Snapshot, below, feed_limit}
use Rattle.rule_history.specs.Findings.{findings}
use Rattle.rule_history.specs.Changed.{with}
use Rattle.rule_history.specs.Standing.{Spot, Standing, closed, opened}
use Rattle.engine_laws.specs.Delta.{Delta, IsDelta}
use Rattle.engine_laws.specs.Standings.{Matches, StandsFor, findings_of, renewed}
use Rattle.engine_laws.proofs.Proved.{no_findings}
use Rattle.timetable_exchange.specs.Retested.{entities_after, retested}
use Rattle.run_rows.specs.follow_engine.Retabled.{OpensAndCloses}
use Rattle.snapshot_lines.specs.Lines.{exchanged, line_of}
use Rattle.rt_report.specs.FindingLines.{any_error}
use Rattle.run_base.specs.Counted.{RoseAtMost, RoseBy, Work, counters}
use Rattle.run_rows.specs.follow_engine.Engine.{Engine}
use Rattle.run_rows.specs.follow_engine.Engines.{engine_data}
use Rattle.run_rows.specs.declared.row.RowEnd.{RowEnd}
use Rattle.run_rows.specs.declared.row_lines.RowLines.{RowLines}
use Rattle.run_rows.specs.declared.telling.Telling.TheVariants.{Changes}
use Rattle.run_rows.specs.Followed.{RowCounts, Takes}
use Rattle.run_rows.specs.Rows.{accepted_text, changes_text, taken}
use Rattle.run_list.specs.declared.stop.Stop.{Stop}
use Rattle.run_list.specs.Listed.{Input, Outcome, State, change_of, exchange_outcome, opened_by, row_outcome, snapshot_outcome, started, timetable_outcome, with_snapshot, with_timetable}
use Rattle.run_list.specs.Stops.{IsReadByRows, IsReadFor, IsStop}
use Rattle.run_list.specs.Taken.{Counts, Gives, IsIn, IsInWithin, IsRowEnd, IsTableEnd, TellsExchange}

abbrev delta : ℕ → ℕ → List Standing → List Spot → ℕ → ℕ → ℕ → ℕ → Delta
delta n e os cs x y z w = record { snapshot = n; entities = e; opened = os; closed = cs; tested = x; paired = y; bounded = z; peaked = w }

same_delta : (d e : Delta) → d.snapshot ≡ e.snapshot → d.entities ≡ e.entities → d.opened ≡ e.opened → d.closed ≡ e.closed → d.tested ≡ e.tested → d.paired ≡ e.paired → d.bounded ≡ e.bounded → d.peaked ≡ e.peaked → d ≡ e
same_delta d e a b c f g h i j =
    ap (λ n. delta n d.entities d.opened d.closed d.tested d.paired d.bounded d.peaked) a
    ∙ ap (λ n. delta e.snapshot n d.opened d.closed d.tested d.paired d.bounded d.peaked) b
    ∙ ap (λ os. delta e.snapshot e.entities os d.closed d.tested d.paired d.bounded d.peaked) c
    ∙ ap (λ cs. delta e.snapshot e.entities e.opened cs d.tested d.paired d.bounded d.peaked) f
    ∙ ap (λ n. delta e.snapshot e.entities e.opened e.closed n d.paired d.bounded d.peaked) g
    ∙ ap (λ n. delta e.snapshot e.entities e.opened e.closed e.tested n d.bounded d.peaked) h
    ∙ ap (λ n. delta e.snapshot e.entities e.opened e.closed e.tested e.paired n d.peaked) i
    ∙ ap (λ n. delta e.snapshot e.entities e.opened e.closed e.tested e.paired e.bounded n) j

-- what an engine says of a snapshot is what it changes in the state
change_is : (st : State) (s : Snapshot) (list : List Standing) (d : Delta) → list ≡ (with_snapshot st s).list → IsDelta st.table st.history s list d → d ≡ change_of st s
change_is st s list d same is =
    same_delta d (change_of st s) is.snapshot_is is.entities_is (is.opened_is ∙ ap (opened (findings st.table st.history)) same) is.closed_is is.tested_is is.paired_is is.bounded_is is.peaked_is

-- a snapshot that was taken gives its outcome
pub snapshot_gives : (number : ℕ) (row : SnapshotRow) (found : Result (List ℕ) Refusal) (engine : Engine) (end : RowEnd) → Takes Changes number row found engine end →
    Gives (λ st. snapshot_outcome st number row found) engine end
snapshot_gives number row (Err why) engine end takes st at = record {
  is_in = subst (IsIn st) (sym takes.stays) at;
  text_is = takes.text_is;
  error_is = takes.error_is;
}
snapshot_gives number row (Ok bytes) engine end takes st at =
    let s : Snapshot = taken row bytes in
    let list = takes.numbers st.table st.history at.matches ∙ ap (λ l. renewed l (length st.history) (findings st.table (with st.history s))) at.list_is in
    let d = change_is st s (engine_data end.engine).list takes.delta list (takes.changes st.table st.history at.matches) in
    record {
      is_in = record { matches = takes.matches st.table st.history at.matches; list_is = list };
      text_is = takes.told.text_is ∙ ap (λ x. accepted_text number row x ++ changes_text x.opened x.closed) d;
      error_is = takes.told.error_is ∙ ap (λ x. any_error x.opened) d;
    }

-- and its work
pub snapshot_counts : (rose : Work → Work → Work → Type 0) (number : ℕ) (row : SnapshotRow) (found : Result (List ℕ) Refusal) (engine : Engine) (old new : Work) → RowCounts rose engine row found old new →
    Counts rose (λ st. snapshot_outcome st number row found) engine old new
snapshot_counts rose number row (Ok bytes) engine old new counts st at = counts st.table st.history at.matches
snapshot_counts rose number row (Err why) engine old new counts st at = counts st.table st.history at.matches

-- ---- the first state
pub begins : (engine : Engine) (t : Option Tables) → StandsFor (engine_data engine) t [] → IsIn (started t) engine
begins engine t stands = record { matches = stands.matches; list_is = none (engine_data engine).list (stands.matches.found_is ∙ no_findings t feed_limit) }
  where
    none : (list : List Standing) → findings_of list ≡ [] → list ≡ []
    none [] e = refl
    none (x ∷ list) e = cc e

-- ---- another timetable
-- what was told of an exchange is its outcome
pub exchange_gives : (number : ℕ) (u : Tables) (engine later : Engine) (lines : RowLines) (entities retests : ℕ) (opens : List Standing) (closes : List Spot) (table : Option Tables) → table ≡ Some u →
    ((t : Option Tables) (h : List Snapshot) → Matches (engine_data engine) t h → Matches (engine_data later) table h) →
    ((t : Option Tables) (h : List Snapshot) → Matches (engine_data engine) t h → (engine_data later).list ≡ renewed (engine_data engine).list (length h - 1) (findings table h)) →
    ((t : Option Tables) (h : List Snapshot) → Matches (engine_data engine) t h → OpensAndCloses t table h (engine_data later).list opens closes) →
    ((t : Option Tables) (h : List Snapshot) → Matches (engine_data engine) t h → entities ≡ length (entities_after h)) →
    ((t : Option Tables) (h : List Snapshot) → Matches (engine_data engine) t h → retests ≡ retested t table h) →
    TellsExchange number entities retests opens closes lines → Gives (λ st. exchange_outcome st number u) engine (record { engine = later; lines = lines })
exchange_gives number u engine later lines entities retests opens closes table is matches numbers changes all again told st at =
    let next : State = with_timetable st u in
    let list = numbers st.table st.history at.matches ∙ ap (λ l. renewed l (length st.history - 1) (findings table st.history)) at.list_is ∙ ap (λ x. renewed st.list (length st.history - 1) (findings x st.history)) is in
    let change = changes st.table st.history at.matches in
    let opened_is = change.opened_is ∙ ap (opened (findings st.table st.history)) list in
    let closed_is = change.closed_is ∙ ap (λ x. closed (findings st.table st.history) (findings x st.history)) is in
    let retests_are = again st.table st.history at.matches ∙ ap (λ x. retested st.table x st.history) is in
    record {
      is_in = record { matches = subst (λ x. Matches (engine_data later) x st.history) is (matches st.table st.history at.matches); list_is = list };
      text_is = told.text_is
          ∙ ap (λ n. line_of (exchanged (record { row = number; entities = n; retested = retests })) ++ changes_text opens closes) (all st.table st.history at.matches)
          ∙ ap (λ n. line_of (exchanged (record { row = number; entities = length (entities_after st.history); retested = n })) ++ changes_text opens closes) retests_are
          ∙ ap (λ os. line_of (exchanged (record { row = number; entities = length (entities_after st.history); retested = retested st.table (Some u) st.history })) ++ changes_text os closes) opened_is
          ∙ ap (λ cs. line_of (exchanged (record { row = number; entities = length (entities_after st.history); retested = retested st.table (Some u) st.history })) ++ changes_text (opened_by st next) cs) closed_is;
      error_is = told.error_is ∙ ap any_error opened_is;
    }

-- the tests of an exchange, where its timetable is there
pub tests_are : (st : State) (u : Tables) (table : Option Tables) → table ≡ Some u → 40 * retested st.table table st.history ≡ 40 * retested st.table (Some u) st.history
tests_are st u table is = ap (λ x. 40 * retested st.table x st.history) is

-- ---- the rows so far
-- a snapshot more, or none
after_within : (st : State) (n i : ℕ) (row : ListRow) (found : Input row) → length st.history < i + 1 → length (let o : Outcome = row_outcome st n row found in o.after.history) < (i + 1) + 1
after_within st n i (row.Snapshot r) (Ok bytes) l = one (length st.history) (length (with st.history (taken r bytes))) (length-append st.history (taken r bytes ∷ [])) l
  where
    one : (a b : ℕ) → b ≡ a + 1 → a < i + 1 → b < (i + 1) + 1
    one a b e l = omega (arith, e, l)
after_within st n i (row.Snapshot r) (Err why) l = omega (arith, l)
after_within st n i (row.Timetable folder) (Ok u) l = omega (arith, l)
after_within st n i (row.Timetable folder) (Err why) l = omega (arith, l)

pub within_next : (told : Option Contents) (number i : ℕ) (row : ListRow) (engine : Engine) (end : RowEnd) → IsInWithin engine i → IsRowEnd told number row engine end → IsInWithin end.engine (i + 1)
within_next told number i row engine end w is = record {
  state = let o : Outcome = row_outcome w.state number row is.found in o.after;
  is_in = (is.gives w.state w.is_in).is_in;
  within = after_within w.state number i row is.found w.within;
}

-- ---- what stops
pub read_by_rows : (rows : List ListRow) (row : ListRow) (last : Option (List ℕ)) (read_rose write_rose more_read more_write : Type 0) (why : Stop) → Contains rows row → (read_rose → more_read) → (write_rose → more_write) →
    IsStop (IsReadFor row) last read_rose write_rose why → IsStop (IsReadByRows rows) last more_read more_write why
read_by_rows rows row last read_rose write_rose more_read more_write why there reads writes is = record {
  reading = λ e. record { row = row; there = there; read = is.reading e };
  named = is.named;
  read = λ e. reads (is.read e);
  write = λ e. writes (is.write e);
}

-- ---- a timetable's row
-- what its folder gave is what the row gave
pub table_end : (told : Option Contents) (number : ℕ) (folder : List ℕ) (engine : Engine) (end : RowEnd) → IsTableEnd told number folder engine end → IsRowEnd told number (row.Timetable folder) engine end
table_end told number folder engine end is = record { found = is.found; found_is = is.found_is; gives = is.gives }

-- nothing is decoded for it
pub table_counts : (engine : Engine) (number : ℕ) (folder : List ℕ) (found : Result Tables LoadFault) (d old new : ℕ) →
    ((st : State) → IsIn st engine → new ≡ old + (let o : Outcome = timetable_outcome st number folder found in o.work.tests)) → Counts RoseBy (λ st. timetable_outcome st number folder found) engine (counters d old) (counters d new)
table_counts engine number folder (Ok u) d old new rose st at = record { decodes = omega arith; tests = rose st at }
table_counts engine number folder (Err why) d old new rose st at = record { decodes = omega arith; tests = rose st at }

pub table_counts_most : (engine : Engine) (number : ℕ) (folder : List ℕ) (found : Result Tables LoadFault) (d old new : ℕ) →
    ((st : State) → IsIn st engine → new ≤ old + (let o : Outcome = timetable_outcome st number folder found in o.work.tests)) → Counts RoseAtMost (λ st. timetable_outcome st number folder found) engine (counters d old) (counters d new)
table_counts_most engine number folder (Ok u) d old new rose st at = record { decodes = omega arith; tests = rose st at }
table_counts_most engine number folder (Err why) d old new rose st at = record { decodes = omega arith; tests = rose st at }

-- and nothing is tested where it is refused
pub kept_tests : (st : State) (number : ℕ) (folder : List ℕ) (why : LoadFault) (found : Result Tables LoadFault) (n : ℕ) → found ≡ Err why → n ≡ n + (let o : Outcome = timetable_outcome st number folder found in o.work.tests)
kept_tests st number folder why found n is = subst (λ f. n ≡ n + (let o : Outcome = timetable_outcome st number folder f in o.work.tests)) (sym is) (omega arith)

pub kept_tests_most : (st : State) (number : ℕ) (folder : List ℕ) (why : LoadFault) (found : Result Tables LoadFault) (n : ℕ) → found ≡ Err why → n ≤ n + (let o : Outcome = timetable_outcome st number folder found in o.work.tests)
kept_tests_most st number folder why found n is = omega arith

-- a timetable that is there has its tables
pub tables_there : (t : Timetable) → is_present t ≡ true → tables_held t ≡ Some (tables_in t)
tables_there t is = ap (λ b. cond b (Some (tables_in t)) None) is

-- and that of what is told, where the call succeeded
pub table_counts_told : {V E : Type 0} (told : Option Contents) (result : Result V E) (engine : Engine) (number : ℕ) (folder : List ℕ) (d old new : ℕ) →
    IfSome told (λ held. OnOk result ((st : State) → IsIn st engine → new ≡ old + (let o : Outcome = timetable_outcome st number folder (tables_of folder held) in o.work.tests))) →
    IfSome told (λ held. OnOk result (Counts RoseBy (λ st. timetable_outcome st number folder (tables_of folder held)) engine (counters d old) (counters d new)))
table_counts_told (Some held) (Ok end) engine number folder d old new rose = table_counts engine number folder (tables_of folder held) d old new rose
table_counts_told (Some held) (Err why) engine number folder d old new rose = tt
table_counts_told None (Ok end) engine number folder d old new rose = tt
table_counts_told None (Err why) engine number folder d old new rose = tt
