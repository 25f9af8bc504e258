-- Histories: which snapshots a feed's findings speak of, and its entities by name.
-- (GTFS Realtime Reference 2.0, "FeedMessage" and "FeedEntity"; keys and the order of entities are this profile's.)
use Rattle.std.specs.Prelude.{◌≡◌, ℕ, zero, suc, ◌+◌, ◌<◌, ◌^◌, ◌==◌, List, [], ◌∷◌, ◌++◌, filter, reverse, Option, Some, None, bytes_eq, if◌then◌else◌, refl}
use Rattle.std.specs.List.{AllByRecursion}
use Rattle.std.specs.BTreeMap.{insert_entry}
use Rattle.feed_values.specs.Snapshot.{entity_payloads, entity_of}
use Rattle.feed_values.specs.Accepted.{IsAccepted}
use Rattle.rule_table.specs.declared.key.EntityKey.{EntityKey}
use Rattle.rule_table.specs.Order.{key_cmp}

-- a snapshot of a feed: the moment at which it was taken, in seconds from 1970, and its bytes
pub record Snapshot : Type 0 where
  pub feed : ℕ
  pub moment : ℕ
  pub bytes : List ℕ

-- A history is a list of accepted snapshots, numbered from 0 in the order in which they were taken.
pub record IsTaken (s : Snapshot) : Type 0 where
  pub feed : s.feed < 256
  pub moment : s.moment < 2 ^ 64
  pub accepted : IsAccepted s.bytes

abbrev pub IsHistory : List Snapshot → Type 0
IsHistory h = AllByRecursion IsTaken h

-- ---- the snapshots of a feed
-- the last one first
abbrev pub recent : List Snapshot → ℕ → List Snapshot
recent h f = reverse (filter (λ s. s.feed == f) h)

abbrev pub first_of : {A : Type 0} → List A → Option A
first_of [] = None
first_of (x ∷ xs) = Some x

abbrev pub second_of : {A : Type 0} → List A → Option A
second_of [] = None
second_of (x ∷ xs) = first_of xs

-- the last snapshot of a feed
abbrev pub now : List Snapshot → ℕ → Option Snapshot
now h f = first_of (recent h f)

-- the one before it
abbrev pub before : List Snapshot → ℕ → Option Snapshot
before h f = second_of (recent h f)

-- ---- entities
-- an entity under its key, as its byte string
abbrev pub Keyed : Type 0
Keyed = EntityKey × List ℕ

-- the id that a byte string gives
abbrev pub id_of : List ℕ → List ℕ
id_of payload = (entity_of payload).0

-- how many of some byte strings give an id
abbrev pub count_id : List (List ℕ) → List ℕ → ℕ
count_id [] id = 0
count_id (p ∷ ps) id = (if bytes_eq (id_of p) id then 1 else 0) + count_id ps id

-- the byte strings of a feed's snapshot under their keys, in its order, after those that stand before them: an occurrence
-- counts the byte strings before with that id
abbrev pub keyed_after : ℕ → List (List ℕ) → List (List ℕ) → List Keyed
keyed_after f done [] = []
keyed_after f done (p ∷ ps) = (record { feed = f; id = id_of p; occurrence = count_id done (id_of p) }, p) ∷ keyed_after f (done ++ p ∷ []) ps

-- entries put in the order of their keys, one by one, after some that are in order
abbrev pub ordered_after : {A : Type 0} → List (EntityKey × A) → List (EntityKey × A) → List (EntityKey × A)
ordered_after done [] = done
ordered_after done (e ∷ es) = ordered_after (insert_entry key_cmp done e.0 e.1) es

-- the entities of a snapshot of a feed, in the order of their keys
abbrev pub entities_in : ℕ → List ℕ → List Keyed
entities_in f bytes = ordered_after [] (keyed_after f [] (entity_payloads bytes))

abbrev pub entities_of_snapshot : Option Snapshot → List Keyed
entities_of_snapshot None = []
entities_of_snapshot (Some s) = entities_in s.feed s.bytes

-- the entities of a feed after a history
abbrev pub entities : List Snapshot → ℕ → List Keyed
entities h f = entities_of_snapshot (now h f)

-- ---- all feeds
-- the parts of the feeds below a number, one after the other
abbrev pub below : {A : Type 0} → (ℕ → List A) → ℕ → List A
below part zero = []
below part (suc n) = below part n ++ part n

-- feeds are below it
unfoldable pub feed_limit : ℕ
feed_limit = 256

pub feed_limit-is : feed_limit ≡ 256
unfolding feed_limit
feed_limit-is = refl
