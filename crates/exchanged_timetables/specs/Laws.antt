-- A law of timetables that are exchanged, for every history.
use Rattle.std.specs.Prelude.{◌≡◌, ℕ, ◌-◌, List, Option}
use Rattle.timetable.specs.Timetables.{Tables}
use Rattle.rule_history.specs.History.{Snapshot, below, feed_limit}
use Rattle.rule_history.specs.Standing.{Spot, Standing}
use Rattle.engine_laws.specs.HeldFeeds.{AreOwn, HeldFeed, IsJoined, closed_in, opened_in}
use Rattle.engine_laws.specs.Standings.{Held, Matches}
use Rattle.exchanged_timetables.specs.Exchange.{IsExchange}
use Rattle.exchanged_timetables.specs.Retabled.{IsRetabled}

-- What matches a history, and gives what is owed for another timetable, then matches the history with that one, and it opened and closed what the other
-- timetable changes.
abbrev pub ExchangeRetables : Type 0
ExchangeRetables = (e later : Held) (old new : ℕ → HeldFeed) → AreOwn old → IsJoined e old → IsJoined later new → later.applied ≡ e.applied → IsExchange later.table (e.applied - 1) old new →
    (opens : List Standing) (closes : List Spot) → opens ≡ below (λ f. opened_in (old f) (new f)) feed_limit → closes ≡ below (λ f. closed_in (old f) (new f)) feed_limit →
    (t : Option Tables) (h : List Snapshot) → Matches e t h → IsRetabled t later.table h e later opens closes
