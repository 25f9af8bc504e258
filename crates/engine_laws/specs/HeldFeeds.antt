-- What an engine owes for one more snapshot: a few equations on what it holds of each feed, and nothing about histories.
use Rattle.std.specs.Prelude.{◌≡◌, ℕ, ◌<◌, ◌==◌, false, List, [], ◌∷◌, ◌++◌, map, Option, Some, None, option_map, unwrap_or, get_or, if◌then◌else◌}
use Rattle.std.specs.List.{flat_map, find}
use Rattle.std.specs.Option.{option_or}
use Rattle.feed_values.specs.Schema.{Value}
use Rattle.feed_values.specs.Messages.{entity}
use Rattle.feed_values.specs.Snapshot.{header_of, timestamp_of, entity_of}
use Rattle.feed_values.specs.declared.cell_value.CellValue.{CellValue}
use Rattle.timetable.specs.Timetables.{Tables}
use Rattle.rule_table.specs.declared.ask.Ask.{Ask}
use Rattle.rule_table.specs.declared.key.EntityKey.{EntityKey}
use Rattle.rule_table.specs.Table.{all_rules}
use Rattle.rule_table.specs.Order.{same_key}
use Rattle.rule_table.specs.Found.{Found}
use Rattle.rule_table.specs.Groups.{Each, IsOn, IsUnder}
use Rattle.rule_table.specs.Judged.{found_all, head_found_all}
use Rattle.rule_table.specs.Pairs.{PairRow}
use Rattle.rule_table.specs.Peaks.{PeakMap}
use Rattle.rule_history.specs.History.{Snapshot, Keyed, entities_in, entities_of_snapshot, below, feed_limit}
use Rattle.rule_table.specs.Answers.{Gathered, entity_answer, heads_answer, gathered_answer, limit_answer}
use Rattle.rule_history.specs.Answered.{timetable_answer, heads_of, rows_in}
use Rattle.rule_history.specs.Peaks.{FeedPeaks, raised_by}
use Rattle.rule_history.specs.Standing.{Standing, Spot, opened, closed}
use Rattle.engine_laws.specs.Standings.{Held, findings_of, renewed}

-- ---- what is held of a feed
-- standings under the keys of entities
abbrev pub KeyedLists : Type 0
KeyedLists = List (EntityKey × List Standing)

-- its last snapshot, the standings on its header, those at each of its entities, and the peaks of its vehicles
pub record HeldFeed : Type 0 where
  pub last : Option Snapshot
  pub header : List Standing
  pub entities : KeyedLists
  pub peaks : FeedPeaks

abbrev pub list_under : EntityKey → KeyedLists → List Standing
list_under key lists = unwrap_or (option_map (λ c. c.1) (find (λ c. same_key c.0 key) lists)) []

-- the standings of a feed: on its header, then at its entities
abbrev pub feed_list : HeldFeed → List Standing
feed_list held = held.header ++ flat_map (λ c. c.1) held.entities

-- those of all feeds, one feed after the other
abbrev pub joined : (ℕ → HeldFeed) → List Standing
joined feeds = below (λ f. feed_list (feeds f)) feed_limit

-- ---- what is held of a feed is its own
abbrev pub AreOn : ℕ → List Found → Type 0
AreOn f fs = Each (λ x. IsOn f x.place) fs

abbrev pub AreUnder : EntityKey → List Found → Type 0
AreUnder key fs = Each (λ x. IsUnder key x.place) fs

-- no key comes twice
abbrev pub AreApart : {A : Type 0} → List (EntityKey × A) → Type 0
AreApart [] = Unit {0}
AreApart (c ∷ cs) = Each (λ d. same_key c.0 d.0 ≡ false) cs × AreApart cs

abbrev pub IsLastOf : ℕ → Option Snapshot → Type 0
IsLastOf f None = Unit {0}
IsLastOf f (Some s) = s.feed ≡ f

-- its last snapshot is of the feed, and its standings are on its header, or at the entity under whose key they are held
pub record IsOwn (f : ℕ) (held : HeldFeed) : Type 0 where
  pub last_of : IsLastOf f held.last
  pub head_on : AreOn f (findings_of held.header)
  pub under_keys : Each (λ c. AreUnder c.0 (findings_of c.1)) held.entities
  pub of_feed : Each (λ c. c.0.feed ≡ f) held.entities
  pub apart : AreApart held.entities

abbrev pub AreOwn : (ℕ → HeldFeed) → Type 0
AreOwn feeds = (f : ℕ) → IsOwn f (feeds f)

-- plain data is what is held of all feeds: the last snapshot and the peaks of each, and their lists joined
pub record IsJoined (e : Held) (feeds : ℕ → HeldFeed) : Type 0 where
  pub last_is : (f : ℕ) → get_or e.last f None ≡ (feeds f).last
  pub peaks_are : (f : ℕ) (vehicle : List ℕ) → e.peaks f vehicle ≡ (feeds f).peaks vehicle
  pub list_is : e.list ≡ joined feeds

-- a feed of which nothing is held
abbrev pub no_feed : HeldFeed
no_feed = record { last = None; header = []; entities = []; peaks = λ vehicle. None }

-- where a list holds the feeds, each at the place of its number, a feed past its end has nothing
abbrev pub feed_at : List HeldFeed → ℕ → HeldFeed
feed_at list f = get_or list f no_feed

-- its plain data, with a timetable and a number
abbrev pub data_of : Option Tables → ℕ → List HeldFeed → Held
data_of t applied list = record { table = t; applied = applied; last = map (λ held. held.last) list; peaks = λ f. (feed_at list f).peaks; list = flat_map feed_list list }

-- ---- what is found by what is held
-- the pairing rows of all feeds
abbrev pub rows_held : (ℕ → HeldFeed) → List PairRow
rows_held feeds = below (λ f. rows_in (entities_of_snapshot (feeds f).last)) feed_limit

-- with their peaks
abbrev pub gathered_held : (ℕ → HeldFeed) → Gathered
gathered_held feeds = record { rows = rows_held feeds; peaks = λ f. (feeds f).peaks }

-- on the header of a snapshot, with the snapshot of its feed before it
abbrev pub head_found : Snapshot → Option Snapshot → List Found
head_found s before = head_found_all all_rules (heads_answer (heads_of s before)) s.feed

-- on the header of a feed
abbrev pub header_found : Option Snapshot → Option Snapshot → List Found
header_found None before = []
header_found (Some s) before = head_found s before

-- what is answered at an entity of a snapshot: by the entity, the snapshot's header and moment, the timetable, the rows and the peaks
abbrev pub held_answer : Option Tables → Gathered → Snapshot → EntityKey → Value entity → Ask → Option CellValue
held_answer t u s key e a =
    option_or (entity_answer key e a) (option_or (limit_answer (timestamp_of (header_of s.bytes)) s.moment a) (option_or (timetable_answer t a) (gathered_answer u a)))

abbrev pub entity_found : Option Tables → Gathered → Snapshot → Keyed → List Found
entity_found t u s e = found_all all_rules (held_answer t u s e.0 (entity_of e.1)) e.0 (entity_of e.1)

-- findings under the keys of entities
abbrev pub KeyedFindings : Type 0
KeyedFindings = List (EntityKey × List Found)

-- at each entity of a feed's last snapshot, under its key
abbrev pub entities_found : Option Tables → Gathered → Option Snapshot → KeyedFindings
entities_found t u None = []
entities_found t u (Some s) = map (λ e. (e.0, entity_found t u s e)) (entities_in s.feed s.bytes)

-- of a feed: on its header, then at its entities in the order of their keys
abbrev pub found_list : List Found → KeyedFindings → List Found
found_list header keyed = header ++ flat_map (λ c. c.1) keyed

abbrev pub feed_found : Option Tables → Gathered → Option Snapshot → Option Snapshot → List Found
feed_found t u last before = found_list (header_found last before) (entities_found t u last)

-- findings are on the header of a feed, or at the entity under whose key they are
pub record AreFoundAt (f : ℕ) (header : List Found) (keyed : KeyedFindings) : Type 0 where
  pub head_on : AreOn f header
  pub under : Each (λ c. AreUnder c.0 c.1) keyed
  pub of_feed : Each (λ c. c.0.feed ≡ f) keyed

-- each list under a key renewed by the old list under that key
abbrev pub renewed_lists : KeyedLists → ℕ → KeyedFindings → KeyedLists
renewed_lists old n found = map (λ c. (c.0, renewed (list_under c.0 old) n c.1)) found

-- ---- What is owed for a snapshot s, with a timetable, after a number of snapshots: what is held of each feed before and after it.
pub record IsNext (t : Option Tables) (applied : ℕ) (s : Snapshot) (old new : ℕ → HeldFeed) : Type 0 where
  -- the feed is one of those that are held
  pub feed : s.feed < feed_limit
  -- the snapshot is the last one of its feed, and the other feeds have theirs
  pub last : (f : ℕ) → (new f).last ≡ (if s.feed == f then Some s else (old f).last)
  -- its header is judged with the one before it
  pub header : (new s.feed).header ≡ renewed (old s.feed).header applied (head_found s (old s.feed).last)
  -- on the headers of other feeds all stays as it is
  pub headers_stay : (f : ℕ) → (s.feed == f) ≡ false → (new f).header ≡ (old f).header
  -- the peaks of its vehicles are those with the one before it, and the other feeds have theirs
  pub peaks : (f : ℕ) (vehicle : List ℕ) → (new f).peaks vehicle ≡ (if s.feed == f then raised_by (old f).last (old f).peaks vehicle else (old f).peaks vehicle)
  -- each entity of each feed is judged with the rows and peaks as they are now
  pub entities : (f : ℕ) → (new f).entities ≡ renewed_lists (old f).entities applied (entities_found t (gathered_held new) (new f).last)

-- ---- The same as one answer: what is held of each feed once a snapshot s was taken.
-- the last snapshot of a feed then
abbrev pub last_after : Snapshot → (ℕ → HeldFeed) → ℕ → Option Snapshot
last_after s old f = if s.feed == f then Some s else (old f).last

-- the pairing rows of all feeds then
abbrev pub rows_after : Snapshot → (ℕ → HeldFeed) → List PairRow
rows_after s old = below (λ f. rows_in (entities_of_snapshot (last_after s old f))) feed_limit

-- the peaks of a feed then
abbrev pub peaks_after : Snapshot → (ℕ → HeldFeed) → PeakMap
peaks_after s old f vehicle = if s.feed == f then raised_by (old f).last (old f).peaks vehicle else (old f).peaks vehicle

abbrev pub gathered_after : Snapshot → (ℕ → HeldFeed) → Gathered
gathered_after s old = record { rows = rows_after s old; peaks = peaks_after s old }

abbrev pub held_after : Option Tables → ℕ → Snapshot → (ℕ → HeldFeed) → ℕ → HeldFeed
held_after t applied s old f = record {
  last = last_after s old f;
  header = if s.feed == f then renewed (old f).header applied (head_found s (old f).last) else (old f).header;
  entities = renewed_lists (old f).entities applied (entities_found t (gathered_after s old) (last_after s old f));
  peaks = peaks_after s old f;
}

-- ---- what a snapshot opens and closes, header by header and entity by entity
abbrev pub opened_in : HeldFeed → HeldFeed → List Standing
opened_in old new = opened (findings_of old.header) new.header ++ flat_map (λ c. opened (findings_of (list_under c.0 old.entities)) c.1) new.entities

abbrev pub closed_in : HeldFeed → HeldFeed → List Spot
closed_in old new = closed (findings_of old.header) (findings_of new.header) ++ flat_map (λ c. closed (findings_of c.1) (findings_of (list_under c.0 new.entities))) old.entities
