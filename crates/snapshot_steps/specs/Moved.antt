-- The rows and timestamps of all feeds once a snapshot came, and what of them changed.
use Rattle.std.specs.Prelude.{ℕ}
use Rattle.rule_history.specs.History.{Snapshot}
use Rattle.engine_laws.specs.HeldFeeds.{HeldFeed, rows_held}
use Rattle.held_feeds.specs.row_changes.Held.{AreAllReplaced, AreKindsOf}
use Rattle.held_feeds.specs.cached_laws.Keys.{lasts_then}
use Rattle.snapshot_steps.specs.declared.moving.Moved.{Moved}

pub record IsMoved (s : Snapshot) (old : ℕ → HeldFeed) (m : Moved) : Type 0 where
  pub replaced : AreAllReplaced old (lasts_then s old) m.rows m.ids
  pub kinds_are : AreKindsOf m.before (rows_held old)
