-- What moves in the two feeds of the trial, and how it changes from snapshot to snapshot. (This profile.)
use Rattle.std.specs.Prelude.{◌≡◌, ℕ, zero, suc, ◌+◌, ◌*◌, ◌%◌, ◌<◌, ◌==◌, nat_lt, List, [], ◌∷◌, length, map, if◌then◌else◌}
use Rattle.std.specs.List.{range_with_len, AllByRecursion}
use Rattle.trial_feed.specs.declared.letter.Letter.{Letter}
use Rattle.trial_feed.specs.declared.letter.Letter.TheVariants.{V, W}
use Rattle.trial_feed.specs.declared.entity_state.EntityState.{EntityState}
use Rattle.trial_feed.specs.Draws.{next_state, drawn}

-- The state of the draws, and what moves of each entity: of feed 0, trip updates, whose number is the delay, and of feed 1,
-- vehicle positions, whose number is the stop sequence.
pub record Moving : Type 0 where
  pub state : ℕ
  pub updates : List EntityState
  pub positions : List EntityState

-- ---- the start
-- of entity k of a feed
abbrev pub first_state : ℕ → ℕ → EntityState
first_state feed k = record { letter = V; number = if feed == 0 then k % 600 else 1 }

-- of so many entities
unfoldable pub first_states : ℕ → ℕ → List EntityState
first_states feed count = map (first_state feed) (range_with_len 0 count)

-- 2,000 entities a feed, and the seed as the state
unfoldable pub begun : ℕ → Moving
begun seed = record { state = seed; updates = first_states 0 2000; positions = first_states 1 2000 }

-- ---- changes
abbrev pub other : Letter → Letter
other V = W
other W = V

-- an entity changes by a number drawn below 4: its letter where that is 0, and otherwise its number rises by 1
abbrev pub changed : ℕ → EntityState → EntityState
changed n e = if n == 0 then record e { letter = other e.letter } else record e { number = e.number + 1 }

-- the entity at a place changes
abbrev pub changed_at : ℕ → ℕ → List EntityState → List EntityState
changed_at k n [] = []
changed_at zero n (e ∷ es) = changed n e ∷ es
changed_at (suc k) n (e ∷ es) = e ∷ changed_at k n es

-- the state of the draws, and what moves of the entities of one feed
pub record OneFeed : Type 0 where
  pub state : ℕ
  pub entities : List EntityState

-- the entity at a place changes by the next number
abbrev pub change_at : ℕ → OneFeed → OneFeed
change_at k feed = record {
  state = next_state feed.state;
  entities = changed_at k (drawn 4 (next_state feed.state)) feed.entities;
}

-- so many changes, of the entities from k on, where entity 0 follows the last
unfoldable pub changes : (left k : ℕ) → OneFeed → OneFeed
changes zero k feed = feed
changes (suc left) k feed = changes left (k + 1) (change_at (k % 2000) feed)

-- what a feed does before a snapshot: an entity is drawn, and 20 change from there on
unfoldable pub moved : OneFeed → OneFeed
moved feed = changes 20 (drawn 2000 (next_state feed.state)) (record feed { state = next_state feed.state })

-- ---- both feeds
abbrev pub of_updates : Moving → OneFeed
of_updates m = record { state = m.state; entities = m.updates }

abbrev pub of_positions : Moving → OneFeed
of_positions m = record { state = m.state; entities = m.positions }

abbrev pub with_updates : Moving → OneFeed → Moving
with_updates m feed = record { state = feed.state; updates = feed.entities; positions = m.positions }

abbrev pub with_positions : Moving → OneFeed → Moving
with_positions m feed = record { state = feed.state; updates = m.updates; positions = feed.entities }

-- What snapshot `number` shows, where m is what the one before it shows. The first of each feed shows the start, and before
-- each later one its feed moves.
abbrev pub advanced : ℕ → Moving → Moving
advanced number m =
    if nat_lt number 2 then m else
    if number % 2 == 0 then with_updates m (moved (of_updates m)) else with_positions m (moved (of_positions m))

-- the numbers of all entities are below a limit
abbrev pub AllBelow : ℕ → List EntityState → Type 0
AllBelow limit states = AllByRecursion (λ e. e.number < limit) states

-- What stands before snapshot `number`: each feed has 2,000 entities, and no delay and no stop sequence is above
-- 599 + 20 * number. So it is at the start for 0, and then for each next number.
pub record IsWithin (number : ℕ) (m : Moving) : Type 0 where
  pub updates_whole : length m.updates ≡ 2000
  pub positions_whole : length m.positions ≡ 2000
  pub updates : AllBelow (600 + 20 * number) m.updates
  pub positions : AllBelow (600 + 20 * number) m.positions
