use Rattle.std.proofs.Common.{◌≤◌, ◌++◌, length, map, take}
use Rattle.held_feeds.specs.row_changes.Held.{AreReplaced, entity_at}
use Rattle.held_feeds.specs.cached_laws.State.{feed_of}
use Rattle.held_feeds.specs.cached_laws.Keys.{lasts_then}
use Rattle.held_feeds.specs.States.{state_of}
use Rattle.snapshot_steps.specs.Taken.{snapshot_of}
use Rattle.snapshot_steps.proofs.moving.take_gone.Given as goal

abbrev pub invariant-loop-key : goal.invariant-loop-key
invariant-loop-key l =
    record {
      replaced : AreReplaced (entity_at (feed_of (state_of l.held))) (entity_at (lasts_then (snapshot_of l.taken) (feed_of (state_of l.held)))) (map (λ c. c.key) l.coming.entities ++ take l.key-index l.coming.changes.gone) l.rows l.ids;
      within : l.key-index ≤ length l.coming.changes.gone;
    }
