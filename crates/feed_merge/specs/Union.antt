-- The union of feeds: one snapshot with the entities of all.
-- (GTFS Realtime Reference 2.0, "FeedMessage", "FeedHeader" and "FeedEntity"; that ids are prefixed is this profile's.)
use Rattle.std.specs.Prelude.{ℕ, ◌+◌, ℤ, pos, List, [], ◌∷◌, ◌++◌, map, codes, decimal, Option, Some, None}
use Rattle.std.specs.List.{filter_map, fold}
use Rattle.std.specs.Int.{int_max}
use Rattle.feed_values.specs.Schema.{Value}
use Rattle.feed_values.specs.Messages.{feed_message, feed_header, entity}
use Rattle.feed_values.specs.Snapshot.{timestamp_of}

-- the most feeds that are merged
abbrev pub feed_limit : ℕ
feed_limit = 16

-- ---- entities
-- what stands before the ids of a feed: its number, and a colon
abbrev pub prefix : ℕ → List ℕ
prefix feed = decimal feed ++ codes ":"

abbrev pub prefixed_id : ℕ → List ℕ → List ℕ
prefixed_id feed id = prefix feed ++ id

-- an entity with this before its id, and else as it is
abbrev pub renamed : List ℕ → Value entity → Value entity
renamed text e = (text ++ e.0, e.1)

-- an entity of a feed, as it stands in the union
abbrev pub prefixed : ℕ → Value entity → Value entity
prefixed feed e = renamed (prefix feed) e

abbrev pub entities_in : Value feed_message → List (Value entity)
entities_in v = v.1.0

-- the entities of feeds one after the other, of which the first has this number
abbrev pub united_from : ℕ → List (Value feed_message) → List (Value entity)
united_from feed [] = []
united_from feed (v ∷ vs) = map (prefixed feed) (entities_in v) ++ united_from (feed + 1) vs

-- ---- the header
-- the timestamps that headers give
abbrev pub stamps_in : List (Value feed_message) → List ℤ
stamps_in vs = filter_map (λ v. timestamp_of v.0) vs

-- the greatest of some numbers, if there are any
abbrev pub greatest : List ℤ → Option ℤ
greatest [] = None
greatest (z ∷ zs) = Some (fold int_max z zs)

abbrev pub greatest_stamp : List (Value feed_message) → Option ℤ
greatest_stamp vs = greatest (stamps_in vs)

-- version 2.0, FULL_DATASET and a timestamp
abbrev pub union_header : Option ℤ → Value feed_header
union_header stamp = (codes "2.0", (Some (pos 0), (stamp, (None, []))))

-- ---- the union
abbrev pub headed : Option ℤ → List (Value entity) → Value feed_message
headed stamp es = (union_header stamp, (es, []))

-- the union of feeds, which are numbered from 0
abbrev pub united : List (Value feed_message) → Value feed_message
united vs = headed (greatest_stamp vs) (united_from 0 vs)
