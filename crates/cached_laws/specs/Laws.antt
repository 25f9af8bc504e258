-- Laws of an engine that caches what each part finds: what one more snapshot leaves, what it told, and how many entities it concerns.
use Rattle.std.specs.Prelude.{◌≡◌, ℕ, ◌<◌, List, length, map, Option}
use Rattle.std.specs.List.{flat_map}
use Rattle.feed_values.specs.Snapshot.{entity_payloads}
use Rattle.timetable.specs.Timetables.{Tables}
use Rattle.rule_table.specs.declared.key.EntityKey.{EntityKey}
use Rattle.rule_table.specs.Groups.{Each}
use Rattle.rule_table.specs.Order.{key_cmp}
use Rattle.rule_table.specs.Pairs.{PairRow}
use Rattle.rule_table.specs.Rises.{Rises}
use Rattle.rule_history.specs.History.{Snapshot, IsTaken}
use Rattle.history_rules.specs.HeldPeaks.{peak_of}
use Rattle.pairing_rules.specs.ByKind.{AreAlike}
use Rattle.engine_laws.specs.Delta.{Delta, IsChange, bounded_held, paired_held, peaked_held, tested_held}
use Rattle.engine_laws.specs.HeldFeeds.{IsNext, held_after, rows_held}
use Rattle.touched_entities.specs.entity_index.Changes.{fresh_places}
use Rattle.touched_entities.specs.entity_index.Held.{HeldEntities}
use Rattle.touched_entities.specs.Exchanged.{IsExchanged}
use Rattle.touched_entities.specs.Told.{FeedTold, feed_closed, feed_opened}
use Rattle.cached_laws.specs.State.{State, IsState, feed_of}
use Rattle.cached_laws.specs.Cached.{AreCached}
use Rattle.cached_laws.specs.Keys.{AreTouched, bytes_before, lasts_then}
use Rattle.cached_laws.specs.Judged.{AreFirstTold, AreJudged, CanBePassed, IsTakenIn}

-- what is held after a snapshot is what is owed for it, and each list has what its part finds
pub record IsOwed (t : Option Tables) (n : ℕ) (s : Snapshot) (old new : State) : Type 0 where
  pub next : IsNext t n s (feed_of old) (feed_of new)
  pub is_state : IsState new
  pub cached : AreCached t new.index (feed_of new)

-- what is at hand where a snapshot was judged after so many: the state before it, the rows and keys with which it was judged, and the state
-- in which it took its place
pub record IsAtHand (t : Option Tables) (n : ℕ) (state : State) (s : Snapshot) (rows : List PairRow) (local paired bounded peaked : List EntityKey) (mid : State) : Type 0 where
  pub is_state : IsState state
  pub cached : AreCached t state.index (feed_of state)
  pub taken : IsTaken s
  pub fits : s.feed < 16
  pub alike : AreAlike rows (rows_held (lasts_then s (feed_of state)))
  pub touched : AreTouched state s local paired bounded peaked
  pub into : IsTakenIn n s state mid

-- Once the parts are judged under the touched keys alone, all is as it is owed.
abbrev pub JudgedIsOwed : Type 0
JudgedIsOwed = (t : Option Tables) (n : ℕ) (state : State) (s : Snapshot) (rows : List PairRow) (local paired bounded peaked : List EntityKey) (mid : State) → IsAtHand t n state s rows local paired bounded peaked mid →
    (last : List HeldEntities) (before after : List FeedTold) → AreJudged t n s rows (peak_of mid.peaks) local paired bounded peaked mid.index last before after → IsOwed t n s state (record { index = last; headers = mid.headers; peaks = mid.peaks })

-- And what was told, handed out in order, with the numbers of keys, is what the snapshot changed.
abbrev pub JudgedIsChange : Type 0
JudgedIsChange = (t : Option Tables) (n : ℕ) (state : State) (s : Snapshot) (rows : List PairRow) (local paired bounded peaked : List EntityKey) (mid : State) → IsAtHand t n state s rows local paired bounded peaked mid →
    (last : List HeldEntities) (before after : List FeedTold) → AreJudged t n s rows (peak_of mid.peaks) local paired bounded peaked mid.index last before after → AreFirstTold n s state before → Each (λ x. Rises key_cmp (map (λ e. e.0) x.entities)) after →
    (d : Delta) → d.snapshot ≡ n → d.entities ≡ length (entity_payloads s.bytes) → d.opened ≡ flat_map feed_opened after → d.closed ≡ flat_map feed_closed after →
    d.tested ≡ length local → d.paired ≡ length paired → d.bounded ≡ length bounded → d.peaked ≡ length peaked → IsChange n s (feed_of state) (feed_of (record { index = last; headers = mid.headers; peaks = mid.peaks })) d

-- Under these keys the parts can be judged.
abbrev pub TouchedCanPass : Type 0
TouchedCanPass = (t : Option Tables) (state : State) (s : Snapshot) → IsState state → IsTaken s → s.feed < 16 → AreCached t state.index (feed_of state) → (local paired bounded peaked : List EntityKey) → AreTouched state s local paired bounded peaked →
    (first : List HeldEntities) → IsExchanged s.feed s.bytes state.index first → CanBePassed first local paired bounded peaked

-- There are as many fresh places, and as many keys of each part, as entities that the snapshot concerns.
pub record AreSizes (t : Option Tables) (n : ℕ) (s : Snapshot) (state : State) (local paired bounded peaked : List EntityKey) : Type 0 where
  pub fresh_are : length (fresh_places s.feed (bytes_before state s.feed) s.bytes) ≡ tested_held s (feed_of state)
  pub local_are : length local ≡ tested_held s (feed_of state)
  pub paired_are : length paired ≡ paired_held s (feed_of state) (held_after t n s (feed_of state))
  pub bounded_are : length bounded ≡ bounded_held s (feed_of state) (held_after t n s (feed_of state))
  pub peaked_are : length peaked ≡ peaked_held s (feed_of state) (held_after t n s (feed_of state))

abbrev pub KeysAreCounted : Type 0
KeysAreCounted = (t : Option Tables) (n : ℕ) (state : State) (s : Snapshot) → IsState state → IsTaken s → s.feed < 16 → AreCached t state.index (feed_of state) → (local paired bounded peaked : List EntityKey) → AreTouched state s local paired bounded peaked →
    AreSizes t n s state local paired bounded peaked
