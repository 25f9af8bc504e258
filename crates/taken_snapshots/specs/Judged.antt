-- What is held once a snapshot was judged in its place.
use Rattle.std.specs.Prelude.{◌≡◌, ℕ, List, length, map, Option}
use Rattle.std.specs.List.{flat_map}
use Rattle.feed_values.specs.Snapshot.{entity_payloads}
use Rattle.timetable.specs.Timetables.{Tables}
use Rattle.rule_table.specs.Groups.{Each}
use Rattle.rule_table.specs.Order.{key_cmp}
use Rattle.rule_table.specs.Rises.{Rises}
use Rattle.rule_history.specs.History.{Snapshot}
use Rattle.engine_laws.specs.Delta.{Delta, IsChange}
use Rattle.engine_laws.specs.HeldFeeds.{IsNext}
use Rattle.snapshot_steps.specs.touched_entities.Told.{FeedTold, feed_closed, feed_opened}
use Rattle.snapshot_steps.specs.cached_laws.State.{State, IsState, feed_of}
use Rattle.snapshot_steps.specs.cached_laws.Cached.{AreCached}
use Rattle.snapshot_steps.specs.declared.touching.Touched.{Touched}

-- The feeds are what is owed for the snapshot, their lists are what each part finds, and what was told is what changed.
pub record IsJudged (t : Option Tables) (n : ℕ) (s : Snapshot) (old : State) (touched : Touched) (new : State) (tolds : List FeedTold) : Type 0 where
  pub is_state : IsState new
  pub next : IsNext t n s (feed_of old) (feed_of new)
  pub cached : AreCached t new.index (feed_of new)
  pub change : Each (λ x. Rises key_cmp (map (λ e. e.0) x.entities)) tolds → (d : Delta) → d.snapshot ≡ n → d.entities ≡ length (entity_payloads s.bytes) → d.opened ≡ flat_map feed_opened tolds → d.closed ≡ flat_map feed_closed tolds →
      d.tested ≡ length touched.local → d.paired ≡ length touched.paired → d.bounded ≡ length touched.bounded → d.peaked ≡ length touched.peaked → IsChange n s (feed_of old) (feed_of new) d
