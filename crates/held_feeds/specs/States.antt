-- What is held, as the laws have it.
use Rattle.std.specs.Prelude.{ℕ, List, Option}
use denote.Ref.{Bor}
use Rattle.engine_laws.specs.HeldFeeds.{HeldFeed, KeyedLists}
use Rattle.rule_history.specs.History.{Snapshot}
use Rattle.rule_history.specs.Standing.{Standing}
use Rattle.cached_laws.specs.row_changes.Held.{AreOfEntities, entity_at}
use Rattle.cached_laws.specs.row_changes.HeldRows.{HeldRows}
use Rattle.cached_laws.specs.State.{State, IsState, feed_of}
use Rattle.held_feeds.specs.declared.feeds.HeldFeeds.{HeldFeeds}

abbrev pub state_of : HeldFeeds → State
state_of held = record { index = held.index; headers = held.headers.items; peaks = held.peaks }

-- the rows and timestamps are those of the entities
pub record AreFeeds (held : HeldFeeds) (rows : HeldRows) : Type 0 where
  pub is_state : IsState (state_of held)
  pub rows_are : AreOfEntities (entity_at (feed_of (state_of held))) rows

-- what of a feed is handed out: its last snapshot, and what stands on its header and at its entities
pub record HandedFeed : Type 0 where
  pub last : Option Snapshot
  pub header : List Standing
  pub entities : KeyedLists

abbrev pub handed_feed : State → ℕ → HandedFeed
handed_feed state f =
    let held : HeldFeed = feed_of state f in
    record { last = held.last; header = held.header; entities = held.entities }

-- of one that is handed out by its number
abbrev pub feed_at_hand : Bor HeldFeeds × ℕ → HandedFeed
feed_at_hand x = handed_feed (state_of x.0.now) x.1
