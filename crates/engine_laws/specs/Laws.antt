-- Laws of what stands over a history, for every timetable and every history.
use Rattle.std.specs.Prelude.{◌≡◌, ℕ, ◌+◌, ◌<◌, ◌≤◌, ◌==◌, Bool, true, false, List, [], filter, get_or, length, Option, Some, None, if◌then◌else◌}
use Rattle.std.specs.List.{list_any}
use Rattle.timetable.specs.Timetables.{Tables}
use Rattle.rule_table.specs.Table.{all_rules}
use Rattle.rule_table.specs.Found.{Found}
use Rattle.rule_table.specs.Judged.{head_found_all}
use Rattle.rule_table.specs.Pairs.{PairRow, rows_of, shares}
use Rattle.rule_table.specs.PairAgree.{Agree, AgreeOnRow}
use Rattle.rule_table.specs.Peaks.{PeakMap, SamePeak}
use Rattle.rule_table.specs.declared.key.EntityKey.{EntityKey}
use Rattle.feed_values.specs.Schema.{Value}
use Rattle.feed_values.specs.Messages.{entity}
use Rattle.feed_values.specs.Snapshot.{entity_of}
use Rattle.rule_history.specs.History.{Snapshot, Keyed, entities, entities_of_snapshot, now, before, below, feed_limit}
use Rattle.rule_history.specs.Answered.{rows, gathered, payload_under, feed_answer}
use Rattle.rule_history.specs.Peaks.{peak, raised_by}
use Rattle.rule_history.specs.Findings.{findings}
use Rattle.rule_history.specs.Changed.{with, changed_rows, is_paired, in_paired, in_peaked}
use Rattle.rule_history.specs.Standing.{Standing, IsSince, stands, stands_after, opened, closed}
use Rattle.engine_laws.specs.Delta.{Delta, IsDelta, IsChange, AreCounts}
use Rattle.engine_laws.specs.Order.{found_cmp, Rises}
use Rattle.engine_laws.specs.HeldFeeds.{HeldFeed, feed_at, data_of, AreOwn, IsJoined, KeyedFindings, AreFoundAt, joined, found_list, feed_found, renewed_lists, IsNext, held_after, rows_held, opened_in, closed_in}
use Rattle.engine_laws.specs.Rows.{row_cmp}
use Rattle.engine_laws.specs.Seats.{LosesNone}
use Rattle.engine_laws.specs.Standings.{Held, Matches, StandsFor, IsListOf, findings_of, renewed}

-- ---- findings
-- The findings after a history are in order: by feed, header before entities, id, occurrence, rule, slot, index; and no rule
-- stands twice at a place.
abbrev pub FindingsRise : Type 0
FindingsRise = (t : Option Tables) (h : List Snapshot) → Rises found_cmp (findings t h)

-- They are those of each feed, one feed after the other: on its header, judged with the header before, then at its entities,
-- judged with the header's timestamp, the moment, the timetable, the rows of all entities and the peaks.
abbrev pub FindingsAreParts : Type 0
FindingsAreParts = (t : Option Tables) (h : List Snapshot) → findings t h ≡ below (λ f. feed_found t (gathered h) (now h f) (before h f)) feed_limit

-- What is found on a feed's header stays as it is when another feed's snapshot comes.
abbrev pub HeadersStay : Type 0
HeadersStay = (t : Option Tables) (h : List Snapshot) (s : Snapshot) (f : ℕ) (last : Snapshot) → (s.feed == f) ≡ false → now h f ≡ Some last →
    head_found_all all_rules (feed_answer t (with h s) f) f ≡ head_found_all all_rules (feed_answer t h f) f

-- No entity of a snapshot is lost.
abbrev pub NoneIsLost : Type 0
NoneIsLost = (h : List Snapshot) (f : ℕ) (s : Snapshot) → now h f ≡ Some s → LosesNone h s

-- ---- since
-- A rule that stood at a place, and stands there after one more snapshot, does so since the same number.
abbrev pub SinceGoesOn : Type 0
SinceGoesOn = (t : Option Tables) (h : List Snapshot) (s : Snapshot) (f : Found) (n : ℕ) → IsSince (stands_after t h f) (length h) n → stands (findings t (with h s)) f ≡ true →
    IsSince (stands_after t (with h s) f) (length h + 1) n

-- One that didn't stand there does so since this snapshot's number.
abbrev pub SinceStarts : Type 0
SinceStarts = (t : Option Tables) (h : List Snapshot) (s : Snapshot) (f : Found) → stands (findings t h) f ≡ false → stands (findings t (with h s)) f ≡ true →
    IsSince (stands_after t (with h s) f) (length h + 1) (length h)

-- So the findings of the longer history, each with its number in the list before, and else with the number of the snapshot,
-- are the list of the longer history.
abbrev pub ListGoesOn : Type 0
ListGoesOn = (t : Option Tables) (h : List Snapshot) (s : Snapshot) (list : List Standing) → IsListOf t h list → IsListOf t (with h s) (renewed list (length h) (findings t (with h s)))

-- ---- lists held apart
-- Lists that are renewed header by header and entity by entity are the one list renewed.
abbrev pub PartsRenew : Type 0
PartsRenew = (old : ℕ → HeldFeed) → AreOwn old → (n : ℕ) (new : ℕ → HeldFeed) (headers : ℕ → List Found) (keyed : ℕ → KeyedFindings) →
    ((f : ℕ) → f < feed_limit → AreFoundAt f (headers f) (keyed f)) →
    ((f : ℕ) → f < feed_limit → (new f).header ≡ renewed (old f).header n (headers f)) →
    ((f : ℕ) → f < feed_limit → (new f).entities ≡ renewed_lists (old f).entities n (keyed f)) →
    joined new ≡ renewed (joined old) n (below (λ f. found_list (headers f) (keyed f)) feed_limit)

-- What opened and what closed is found in the lists of the header or entity alone.
abbrev pub PartsOpen : Type 0
PartsOpen = (old new : ℕ → HeldFeed) → AreOwn old → AreOwn new → opened (findings_of (joined old)) (joined new) ≡ below (λ f. opened_in (old f) (new f)) feed_limit

abbrev pub PartsClose : Type 0
PartsClose = (old new : ℕ → HeldFeed) → AreOwn old → AreOwn new → closed (findings_of (joined old)) (findings_of (joined new)) ≡ below (λ f. closed_in (old f) (new f)) feed_limit

-- ---- rows
-- Rows are in order.
abbrev pub RowsRise : Type 0
RowsRise = (h : List Snapshot) → Rises row_cmp (rows h)

-- Where no row came or went that a test is true of, the rows that it is true of are the same list.
abbrev pub RowsStay : Type 0
RowsStay = (g h : List Snapshot) (test : PairRow → Bool) → list_any test (changed_rows (rows g) (rows h)) ≡ false → filter test (rows g) ≡ filter test (rows h)

-- So to a row that shares no id with a row that came or went all is answered as before, the first vehicle and the first
-- entity among it.
abbrev pub RowsAgree : Type 0
RowsAgree = (g h : List Snapshot) (r : PairRow) → list_any (shares r) (changed_rows (rows g) (rows h)) ≡ false → (f : ℕ) → AgreeOnRow (rows g) (rows h) f r

-- An entity that was there with the same byte string, and is not one that rows which came or went concern, keeps its pairing
-- findings: whatever finds the same where rows answer alike for an entity, and nothing at an entity without rows.
abbrev pub PairingStays : Type 0
PairingStays = (find : List PairRow → EntityKey → Value entity → List Found) → ((u v : List PairRow) (k : EntityKey) (e : Value entity) → Agree u v k e → find u k e ≡ find v k e) →
    ((u : List PairRow) (k : EntityKey) (e : Value entity) → rows_of k e ≡ [] → find u k e ≡ []) → (g : List Snapshot) (s : Snapshot) (e : Keyed) → e.0.feed < feed_limit →
    payload_under e.0 (entities g e.0.feed) ≡ Some e.1 → payload_under e.0 (entities (with g s) e.0.feed) ≡ Some e.1 → in_paired g s e ≡ false →
    find (rows g) e.0 (entity_of e.1) ≡ find (rows (with g s)) e.0 (entity_of e.1)

-- The same by what is held of each feed before and after, with no history at hand.
abbrev pub PairingKeeps : Type 0
PairingKeeps = (find : List PairRow → EntityKey → Value entity → List Found) → ((u v : List PairRow) (k : EntityKey) (e : Value entity) → Agree u v k e → find u k e ≡ find v k e) →
    ((u : List PairRow) (k : EntityKey) (e : Value entity) → rows_of k e ≡ [] → find u k e ≡ []) → (old new : ℕ → HeldFeed) → AreOwn old → AreOwn new → (e : Keyed) → e.0.feed < feed_limit →
    payload_under e.0 (entities_of_snapshot (old e.0.feed).last) ≡ Some e.1 → payload_under e.0 (entities_of_snapshot (new e.0.feed).last) ≡ Some e.1 →
    is_paired (rows_held old) (rows_held new) (rows_of e.0 (entity_of e.1)) ≡ false → find (rows_held old) e.0 (entity_of e.1) ≡ find (rows_held new) e.0 (entity_of e.1)

-- ---- peaks
-- One more snapshot raises the peaks of its feed by the snapshot before it, and leaves those of the others.
abbrev pub PeaksRaise : Type 0
PeaksRaise = (g : List Snapshot) (s : Snapshot) (f : ℕ) (vehicle : List ℕ) → peak (with g s) f vehicle ≡ (if s.feed == f then raised_by (now g f) (peak g f) vehicle else peak g f vehicle)

-- An entity whose vehicle, if it gives one, has the peak that it had keeps what is found with peaks: whatever finds the same where the peak of an
-- entity's vehicle is the same.
abbrev pub PeakingStays : Type 0
PeakingStays = (find : PeakMap → EntityKey → Value entity → List Found) → ((u v : PeakMap) (k : EntityKey) (e : Value entity) → SamePeak u v k e → find u k e ≡ find v k e) →
    (g : List Snapshot) (s : Snapshot) (e : Keyed) → in_peaked g s e ≡ false → find (peak g) e.0 (entity_of e.1) ≡ find (peak (with g s)) e.0 (entity_of e.1)

-- ---- engines
-- What holds nothing stands for its timetable and the history without snapshots.
abbrev pub NothingStands : Type 0
NothingStands = (e : Held) → e.applied ≡ 0 → ((f : ℕ) → get_or e.last f None ≡ None) → ((f : ℕ) (vehicle : List ℕ) → e.peaks f vehicle ≡ None) → e.list ≡ [] → StandsFor e e.table []

-- The data of a list of feeds are what is held of all feeds.
abbrev pub DataAreJoined : Type 0
DataAreJoined = (t : Option Tables) (applied : ℕ) (list : List HeldFeed) → length list ≤ feed_limit → IsJoined (data_of t applied list) (feed_at list)

-- What is owed for a snapshot keeps all at its own place.
abbrev pub NextIsOwn : Type 0
NextIsOwn = (t : Option Tables) (applied : ℕ) (s : Snapshot) (old new : ℕ → HeldFeed) → AreOwn old → IsNext t applied s old new → AreOwn new

-- What matches a history, and gives what is owed for a snapshot, then matches the history with this snapshot at its end.
abbrev pub NextMatches : Type 0
NextMatches = (e later : Held) (s : Snapshot) (old new : ℕ → HeldFeed) → AreOwn old → IsJoined e old → IsJoined later new → later.table ≡ e.table → later.applied ≡ e.applied + 1 →
    IsNext e.table e.applied s old new → (t : Option Tables) (h : List Snapshot) → Matches e t h → Matches later t (with h s)

-- Each rule at a place has its number of before in the list, and where it has none that of the snapshot.
abbrev pub NextNumbers : Type 0
NextNumbers = (e later : Held) (s : Snapshot) (old new : ℕ → HeldFeed) → AreOwn old → IsJoined e old → IsJoined later new →
    IsNext e.table e.applied s old new → (t : Option Tables) (h : List Snapshot) → Matches e t h → later.list ≡ renewed e.list (length h) (findings t (with h s))

-- What stands for a history then stands for the longer one.
abbrev pub NextStands : Type 0
NextStands = (e later : Held) (s : Snapshot) (old new : ℕ → HeldFeed) → AreOwn old → IsJoined e old → IsJoined later new → later.table ≡ e.table → later.applied ≡ e.applied + 1 →
    IsNext e.table e.applied s old new → (t : Option Tables) (h : List Snapshot) → StandsFor e t h → StandsFor later t (with h s)

-- And a delta as it is owed is what the snapshot changes.
abbrev pub NextChanges : Type 0
NextChanges = (e later : Held) (s : Snapshot) (old new : ℕ → HeldFeed) → AreOwn old → IsJoined e old → IsJoined later new →
    IsNext e.table e.applied s old new → (d : Delta) → IsChange e.applied s old new d → (t : Option Tables) (h : List Snapshot) → Matches e t h → IsDelta t h s later.list d

-- What is owed is one thing: the computed answer meets the equations, and nothing else does.
pub record NextIsComputed : Type 0 where
  pub is_next : (t : Option Tables) (applied : ℕ) (s : Snapshot) (old : ℕ → HeldFeed) → s.feed < feed_limit → IsNext t applied s old (held_after t applied s old)
  pub is_only : (t : Option Tables) (applied : ℕ) (s : Snapshot) (old new : ℕ → HeldFeed) → IsNext t applied s old new → (f : ℕ) → new f ≡ held_after t applied s old f

-- So how many entities a snapshot concerns is told by what is held before it alone, also where no engine for the longer history is there.
abbrev pub CountsAreHeld : Type 0
CountsAreHeld = (e : Held) (s : Snapshot) (old : ℕ → HeldFeed) → AreOwn old → IsJoined e old → s.feed < feed_limit → (t : Option Tables) (h : List Snapshot) → Matches e t h →
    AreCounts t h s old (held_after e.table e.applied s old)
