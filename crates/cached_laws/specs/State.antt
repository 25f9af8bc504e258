-- What an incremental engine holds of its feeds: their entities with four lists each, what stands on their headers, and the peaks of vehicles.
use Rattle.std.specs.Prelude.{◌≡◌, ℕ, ◌≤◌, List, [], map, get_or, Option, Some, None, IfSome}
use Rattle.rule_table.specs.declared.key.EntityKey.{EntityKey}
use Rattle.rule_history.specs.History.{Snapshot, IsTaken}
use Rattle.rule_history.specs.Standing.{Standing}
use Rattle.engine_laws.specs.HeldFeeds.{HeldFeed, AreOwn}
use Rattle.touched_entities.specs.standing_walks.Merged.{merged_four}
use Rattle.touched_entities.specs.standing_walks.Walked.{IsInOrder}
use Rattle.history_rules.specs.HeldPeaks.{HeldPeaks, peak_of}
use Rattle.touched_entities.specs.entity_index.Held.{HeldEntities, entities_before, held_at}
use Rattle.touched_entities.specs.entity_index.Lists.{Lists}

-- of a feed beside its entities: the moment of its last snapshot, and what stands on its header
pub record HeldHeader : Type 0 where
  pub moment : ℕ
  pub list : List Standing

abbrev pub no_header : HeldHeader
no_header = record { moment = 0; list = [] }

abbrev pub header_at : List HeldHeader → ℕ → HeldHeader
header_at headers f = get_or headers f no_header

-- of all feeds
pub record State : Type 0 where
  pub index : List HeldEntities
  pub headers : List HeldHeader
  pub peaks : HeldPeaks

-- ---- as the definitions have it
-- the snapshot of a feed with some bytes, if it has one
abbrev pub snapshot_with : ℕ → ℕ → Option (List ℕ) → Option Snapshot
snapshot_with f moment None = None
snapshot_with f moment (Some bytes) = Some (record { feed = f; moment = moment; bytes = bytes })

-- all that stands at an entity
abbrev pub whole_of : Lists → List Standing
whole_of l = merged_four l.local l.paired l.bounded l.peaked

abbrev pub feed_of : State → ℕ → HeldFeed
feed_of s f = record {
  last = snapshot_with f (header_at s.headers f).moment (held_at s.index f).bytes;
  header = (header_at s.headers f).list;
  entities = map {B = EntityKey × List Standing} (λ c. (c.0, whole_of c.1)) (held_at s.index f).parts;
  peaks = peak_of s.peaks f;
}

-- ---- What holds of it, whatever the timetable: the lists are under the keys of the snapshots, the snapshots are such as are taken, of 16 feeds, and what
-- stands is of its own place, on headers in order.
pub record IsState (s : State) : Type 0 where
  pub keys_are : (f : ℕ) → map (λ c. c.0) (held_at s.index f).parts ≡ map (λ e. e.0) (entities_before f (held_at s.index f).bytes)
  pub few : (f : ℕ) → 16 ≤ f → (held_at s.index f).bytes ≡ None
  pub taken : (f : ℕ) → IfSome (feed_of s f).last IsTaken
  pub own : AreOwn (feed_of s)
  pub ordered : (f : ℕ) → IsInOrder (header_at s.headers f).list
