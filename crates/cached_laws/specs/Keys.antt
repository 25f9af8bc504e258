-- The keys of the entities that are judged again when a snapshot comes: those that are new or have other bytes, and with each part those that what it
-- rests on concerns.
use Rattle.std.specs.Prelude.{◌≡◌, ℕ, ◌==◌, pos, Bool, false, not, ◌&&◌, ◌||◌, List, [], Option, Some, None}
use Rattle.feed_values.specs.Snapshot.{header_of, timestamp_of}
use Rattle.feed_values.specs.Schema.{Value}
use Rattle.feed_values.specs.Messages.{entity}
use Rattle.rule_table.specs.declared.key.EntityKey.{EntityKey}
use Rattle.rule_table.specs.Peaks.{vehicle_id_of}
use Rattle.rule_table.specs.Order.{key_cmp}
use Rattle.rule_table.specs.Rises.{Rises}
use Rattle.rule_history.specs.History.{Snapshot}
use Rattle.rule_history.specs.Changed.{is_paired, keeps_bounds, has_moved}
use Rattle.rule_history.specs.Peaks.{FeedPeaks}
use Rattle.engine_laws.specs.HeldFeeds.{HeldFeed, last_after, peaks_after, rows_held}
use Rattle.touched_entities.specs.part_laws.Bounded.{low_bound}
use Rattle.touched_entities.specs.part_laws.Touched.{is_among}
use Rattle.touched_entities.specs.entity_index.Changes.{fresh_keys}
use Rattle.touched_entities.specs.entity_index.Held.{held_at}
use Rattle.row_changes.specs.Given.{rows_under}
use Rattle.row_changes.specs.Held.{entity_at}
use Rattle.row_changes.specs.Touched.{gives_later}
use Rattle.cached_laws.specs.State.{State, feed_of}

-- the last snapshot and the peaks of each feed once one more came
abbrev pub lasts_then : Snapshot → (ℕ → HeldFeed) → ℕ → HeldFeed
lasts_then s old f = record { last = last_after s old f; header = []; entities = []; peaks = peaks_after s old f }

-- the bytes of the last snapshot of a feed
abbrev pub bytes_before : State → ℕ → Option (List ℕ)
bytes_before state f = (held_at state.index f).bytes

abbrev pub is_fresh_key : State → Snapshot → EntityKey → Bool
is_fresh_key state s key = is_among (fresh_keys s.feed (bytes_before state s.feed) s.bytes) key

-- a row of the entity that is there then shares an id with one that came or went, or is looked up in a kind that came or went whole
abbrev pub is_paired_then : State → Snapshot → EntityKey → Bool
is_paired_then state s key =
    let old : ℕ → HeldFeed = feed_of state in
    is_paired (rows_held old) (rows_held (lasts_then s old)) (rows_under key (entity_at (lasts_then s old) key))

-- the vehicle of an entity that may be there has another peak
abbrev pub gives_moved : FeedPeaks → FeedPeaks → Option (Value entity) → Bool
gives_moved old new None = false
gives_moved old new (Some e) = has_moved old new (vehicle_id_of e)

-- the entity of the snapshot that is there then has such a vehicle
abbrev pub is_peaked_then : State → Snapshot → EntityKey → Bool
is_peaked_then state s key =
    let old : ℕ → HeldFeed = feed_of state in
    key.feed == s.feed && gives_moved (old s.feed).peaks (peaks_after s old s.feed) (entity_at (lasts_then s old) key)

-- the keys of a part, in order, are those of a test
pub record AreKeys (test : EntityKey → Bool) (keys : List EntityKey) : Type 0 where
  pub rise : Rises key_cmp keys
  pub among : (key : EntityKey) → is_among keys key ≡ test key

-- ---- by bounds
-- a number is the lower bound of a snapshot, if there is one
abbrev pub IsBoundOf : Option ℕ → Option Snapshot → Type 0
IsBoundOf None None = Unit {0}
IsBoundOf (Some bound) (Some s) = pos bound ≡ low_bound (timestamp_of (header_of s.bytes)) s.moment
IsBoundOf _ _ = ⊥

-- whether an entity of the snapshot's feed has, once it came, a timestamp above a bound
abbrev pub is_over_then : State → Snapshot → Option ℕ → EntityKey → Bool
is_over_then state s None key = false
is_over_then state s (Some bound) key = key.feed == s.feed && gives_later bound (entity_at (lasts_then s (feed_of state)) key)

-- The keys are those of fresh entities, and where the bounds moved of those above the one before, or above the one that is now.
pub record AreBoundedKeys (state : State) (s : Snapshot) (keys : List EntityKey) : Type 0 where
  pub before : Option ℕ
  pub now : ℕ
  pub before_is : IsBoundOf before (feed_of state s.feed).last
  pub now_is : IsBoundOf (Some now) (Some s)
  pub keys_are : AreKeys (λ key. is_fresh_key state s key || (not (keeps_bounds s (feed_of state s.feed).last) && (is_over_then state s before key || is_over_then state s (Some now) key))) keys

-- the keys of all parts
pub record AreTouched (state : State) (s : Snapshot) (local paired bounded peaked : List EntityKey) : Type 0 where
  pub local_are : AreKeys (is_fresh_key state s) local
  pub paired_are : AreKeys (λ key. is_fresh_key state s key || is_paired_then state s key) paired
  pub bounded_are : AreBoundedKeys state s bounded
  pub peaked_are : AreKeys (λ key. is_fresh_key state s key || is_peaked_then state s key) peaked
