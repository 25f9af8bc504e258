-- A snapshot taken in and judged: the entities in their places with the lists that stood, then part by part what is found in the place of what was.
use Rattle.std.specs.Prelude.{◌≡◌, ℕ, ◌==◌, ℤ, true, false, List, Option, is_some, if◌then◌else◌}
use Rattle.feed_values.specs.Snapshot.{header_of, timestamp_of}
use Rattle.timetable.specs.Timetables.{Tables}
use Rattle.rule_table.specs.declared.key.EntityKey.{EntityKey}
use Rattle.rule_table.specs.Order.{key_cmp}
use Rattle.rule_table.specs.Pairs.{PairRow}
use Rattle.rule_table.specs.Peaks.{PeakMap}
use Rattle.rule_table.specs.Rises.{Rises}
use Rattle.rule_history.specs.History.{Snapshot}
use Rattle.rule_history.specs.Standing.{Standing}
use Rattle.engine_laws.specs.HeldFeeds.{head_found, peaks_after}
use Rattle.engine_laws.specs.Standings.{renewed}
use Rattle.touched_entities.specs.part_laws.Touched.{is_among}
use Rattle.touched_entities.specs.standing_walks.Walked.{IsInOrder}
use Rattle.history_rules.specs.HeldPeaks.{peak_of}
use Rattle.touched_entities.specs.entity_index.Changes.{gone_keys}
use Rattle.touched_entities.specs.entity_index.Held.{HeldEntities}
use Rattle.touched_entities.specs.entity_parts.Found.{local_found, paired_found, bounded_found, peaked_found}
use Rattle.touched_entities.specs.Again.{IsPassed, list_under, payload_at}
use Rattle.touched_entities.specs.Exchanged.{IsExchanged}
use Rattle.touched_entities.specs.Left.{told_left}
use Rattle.touched_entities.specs.Told.{AreTolds, FeedTold, header_told, no_told, plus, told_at, told_between}
use Rattle.cached_laws.specs.State.{State, feed_of, header_at}
use Rattle.cached_laws.specs.Keys.{bytes_before}

-- the list on the header of the snapshot: judged with the snapshot before it
abbrev pub header_then : ℕ → Snapshot → State → List Standing
header_then n s old = renewed (header_at old.headers s.feed).list n (head_found s (feed_of old s.feed).last)

-- What closes at entities that are gone is told, and what opens and closes on the header.
pub record AreFirstTold (n : ℕ) (s : Snapshot) (old : State) (tolds : List FeedTold) : Type 0 where
  pub gone_are : (key : EntityKey) → told_at tolds key ≡ (if is_among (gone_keys s.feed (bytes_before old s.feed) s.bytes) key then told_left old.index key no_told else no_told)
  pub headers_are : (f : ℕ) → header_told tolds f ≡ (if s.feed == f then plus no_told (told_between (header_at old.headers s.feed).list (header_then n s old)) else no_told)
  pub tolds_are : AreTolds tolds

-- The snapshot is in its place, with its moment and what stands on its header; the other feeds stay. The peaks of its feed are raised.
pub record IsTakenIn (n : ℕ) (s : Snapshot) (old new : State) : Type 0 where
  pub entities_are : IsExchanged s.feed s.bytes old.index new.index
  pub header_is : header_at new.headers s.feed ≡ record { moment = s.moment; list = header_then n s old }
  pub others_stay : (f : ℕ) → (s.feed == f) ≡ false → header_at new.headers f ≡ header_at old.headers f
  pub peaks_are : (f : ℕ) (vehicle : List ℕ) → peak_of new.peaks f vehicle ≡ peaks_after s (feed_of old) f vehicle

-- Parts of entities can be judged under some keys: these are in order, entities are there under them, and their lists are in order.
pub record CanBePassed (index : List HeldEntities) (local paired bounded peaked : List EntityKey) : Type 0 where
  pub local_rise : Rises key_cmp local
  pub paired_rise : Rises key_cmp paired
  pub bounded_rise : Rises key_cmp bounded
  pub peaked_rise : Rises key_cmp peaked
  pub local_held : (key : EntityKey) → is_among local key ≡ true → is_some (payload_at index key) ≡ true
  pub paired_held : (key : EntityKey) → is_among paired key ≡ true → is_some (payload_at index key) ≡ true
  pub bounded_held : (key : EntityKey) → is_among bounded key ≡ true → is_some (payload_at index key) ≡ true
  pub peaked_held : (key : EntityKey) → is_among peaked key ≡ true → is_some (payload_at index key) ≡ true
  pub ordered : (key : EntityKey) (part : ℕ) → IsInOrder (list_under index key part)

-- Four parts of some entities are judged, one after the other: by themselves and with the timetable, with pairing rows, by the bounds of a timestamp
-- and a moment, and by peaks.
pub record ArePassed (t : Option Tables) (n : ℕ) (timestamp : Option ℤ) (moment : ℕ) (rows : List PairRow) (peaks : PeakMap) (local paired bounded peaked : List EntityKey) (old new : List HeldEntities) (before after : List FeedTold) : Type 0 where
  pub second : List HeldEntities
  pub third : List HeldEntities
  pub fourth : List HeldEntities
  pub second_told : List FeedTold
  pub third_told : List FeedTold
  pub fourth_told : List FeedTold
  pub local_is : IsPassed 0 n (local_found t) local old second before second_told
  pub paired_is : IsPassed 1 n (paired_found rows) paired second third second_told third_told
  pub bounded_is : IsPassed 2 n (bounded_found timestamp moment) bounded third fourth third_told fourth_told
  pub peaked_is : IsPassed 3 n (peaked_found peaks) peaked fourth new fourth_told after

-- by the bounds of a snapshot
abbrev pub AreJudged : Option Tables → ℕ → Snapshot → List PairRow → PeakMap → List EntityKey → List EntityKey → List EntityKey → List EntityKey → List HeldEntities → List HeldEntities → List FeedTold → List FeedTold → Type 0
AreJudged t n s rows peaks local paired bounded peaked old new before after = ArePassed t n (timestamp_of (header_of s.bytes)) s.moment rows peaks local paired bounded peaked old new before after
