use Rattle.std.proofs.Common.{◌≤◌, length, map, take}
use Rattle.held_feeds.specs.row_changes.Held.{AreReplaced, entity_at}
use Rattle.held_feeds.specs.cached_laws.State.{feed_of}
use Rattle.held_feeds.specs.cached_laws.Keys.{lasts_then}
use Rattle.held_feeds.specs.States.{state_of}
use Rattle.snapshot_steps.specs.Taken.{snapshot_of}
use Rattle.snapshot_steps.proofs.moving.put_coming.Given as goal

abbrev pub invariant-loop-incoming : goal.invariant-loop-incoming
invariant-loop-incoming l =
    record {
      replaced : AreReplaced (entity_at (feed_of (state_of l.held))) (entity_at (lasts_then (snapshot_of l.taken) (feed_of (state_of l.held)))) (take l.incoming-index (map (λ c. c.key) l.coming)) l.rows l.ids;
      within : l.incoming-index ≤ length l.coming;
    }
