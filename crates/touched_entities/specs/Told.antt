-- What a snapshot opens and closes, place by place.
use Rattle.std.specs.Prelude.{◌≡◌, ℕ, ◌≤◌, List, [], ◌++◌, length, get_or, unwrap_or}
use Rattle.std.specs.List.{flat_map}
use Rattle.rule_table.specs.declared.key.EntityKey.{EntityKey}
use Rattle.rule_table.specs.Groups.{Each}
use Rattle.rule_history.specs.Standing.{Standing, Spot, opened, closed}
use Rattle.engine_laws.specs.Standings.{findings_of}
use Rattle.entity_parts.specs.part_laws.FourParts.{spots_in_order, standings_in_order}
use Rattle.entity_index.specs.Held.{at_key}
use Rattle.entity_index.specs.Lists.{Lists}

pub record Told : Type 0 where
  pub opened : List Standing
  pub closed : List Spot

abbrev pub no_told : Told
no_told = record { opened = []; closed = [] }

abbrev pub plus : Told → Told → Told
plus a b = record { opened = a.opened ++ b.opened; closed = a.closed ++ b.closed }

-- between a list and the one in its place
abbrev pub told_between : List Standing → List Standing → Told
told_between old new = record { opened = opened (findings_of old) new; closed = closed (findings_of old) (findings_of new) }

-- between four lists and those in their places, part by part
abbrev pub told_parts : Lists → Lists → Told
told_parts a b =
    plus (plus (plus (plus no_told (told_between a.local b.local)) (told_between a.paired b.paired)) (told_between a.bounded b.bounded)) (told_between a.peaked b.peaked)

-- ---- feeds
-- on the header of a feed, and under the keys of its entities
pub record FeedTold : Type 0 where
  pub header : Told
  pub entities : List (EntityKey × Told)

abbrev pub nothing_told : FeedTold
nothing_told = record { header = no_told; entities = [] }

-- at the feed of a number
abbrev pub feed_told : List FeedTold → ℕ → FeedTold
feed_told tolds f = get_or tolds f nothing_told

abbrev pub header_told : List FeedTold → ℕ → Told
header_told tolds f = (feed_told tolds f).header

-- at an entity
abbrev pub told_at : List FeedTold → EntityKey → Told
told_at tolds key = unwrap_or (at_key key (feed_told tolds key.feed).entities) no_told

-- the keys are of their feed, and there are at most 256 feeds
pub record AreTolds (tolds : List FeedTold) : Type 0 where
  pub few : length tolds ≤ 256
  pub own : (f : ℕ) → Each (λ e. e.0.feed ≡ f) (feed_told tolds f).entities

-- ---- all of it
-- of a feed: on its header, then at its entities in the order of their keys, rule by rule
abbrev pub feed_opened : FeedTold → List Standing
feed_opened t = t.header.opened ++ flat_map (λ e. standings_in_order e.1.opened) t.entities

abbrev pub feed_closed : FeedTold → List Spot
feed_closed t = t.header.closed ++ flat_map (λ e. spots_in_order e.1.closed) t.entities
