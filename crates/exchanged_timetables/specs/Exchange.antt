-- Another timetable in the place of one, by what is held of each feed.
use Rattle.std.specs.Prelude.{◌≡◌, ℕ, List, Option}
use Rattle.timetable.specs.Timetables.{Tables}
use Rattle.rule_history.specs.History.{below, feed_limit}
use Rattle.rule_history.specs.Standing.{Spot, Standing}
use Rattle.engine_laws.specs.HeldFeeds.{HeldFeed, closed_in, entities_found, gathered_held, opened_in, renewed_lists}
use Rattle.taken_snapshots.specs.cached_laws.State.{State, IsState, feed_of}
use Rattle.taken_snapshots.specs.cached_laws.Cached.{AreCached}

-- What is owed for another timetable: each entity is judged with it and with the rows and peaks as they are, and a rule that is new at its place has this
-- number. The snapshots, what stands on headers, and the peaks stay.
pub record IsExchange (u : Option Tables) (n : ℕ) (old new : ℕ → HeldFeed) : Type 0 where
  pub last : (f : ℕ) → (new f).last ≡ (old f).last
  pub header : (f : ℕ) → (new f).header ≡ (old f).header
  pub peaks : (f : ℕ) (vehicle : List ℕ) → (new f).peaks vehicle ≡ (old f).peaks vehicle
  pub entities : (f : ℕ) → (new f).entities ≡ renewed_lists (old f).entities n (entities_found u (gathered_held new) (new f).last)

-- All that is held is so, each list has what its part finds then, and what opened and what closed is so list by list.
pub record IsExchanged (u : Option Tables) (n : ℕ) (old new : State) (opens : List Standing) (closes : List Spot) : Type 0 where
  pub was : IsState old
  pub is : IsState new
  pub exchange : IsExchange u n (feed_of old) (feed_of new)
  pub cached : AreCached u new.index (feed_of new)
  pub opens_are : opens ≡ below (λ f. opened_in (feed_of old f) (feed_of new f)) feed_limit
  pub closes_are : closes ≡ below (λ f. closed_in (feed_of old f) (feed_of new f)) feed_limit
