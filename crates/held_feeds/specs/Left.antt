-- Standings that are left to hand out.
use Rattle.std.specs.Prelude.{ℕ, zero, suc, ◌-◌, List, [], ◌∷◌, Option, Some, None, map}
use Rattle.std.specs.List.{flat_map}
use denote.Ref.{Bor}
use Rattle.rule_table.specs.declared.key.EntityKey.{EntityKey}
use Rattle.rule_table.specs.Found.{Found}
use Rattle.rule_history.specs.Standing.{Standing}
use Rattle.held_feeds.specs.States.{HandedFeed, handed_feed}
use Rattle.cached_laws.specs.entity_index.Held.{KeyedParts}
use Rattle.cached_laws.specs.State.{State, whole_of}

-- a finding and a number that are handed out
abbrev pub standing_of : Bor Found × ℕ → Standing
standing_of x = record { finding = x.0.now; since = x.1 }

-- the lists of a feed: that on its header, then those at its entities
abbrev pub feed_lists : HandedFeed → List (List Standing)
feed_lists feed = feed.header ∷ map (λ c. c.1) feed.entities

-- the lists at entities that are at hand, if any
abbrev pub at_hand : Option KeyedParts → List (List Standing)
at_hand None = []
at_hand (Some parts) = map (λ c. c.1) (map {B = EntityKey × List Standing} (λ c. (c.0, whole_of c.1)) parts)

-- so many of the last ones of 256 feeds
unfoldable pub last_feeds : State → ℕ → List HandedFeed
last_feeds state zero = []
last_feeds state (suc n) = handed_feed state (255 - n) ∷ last_feeds state n

-- lists one after the other
abbrev pub flat : List (List Standing) → List Standing
flat lists = flat_map (λ xs. xs) lists
