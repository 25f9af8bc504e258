-- What an engine says of one more snapshot, and what it owes for it.
use Rattle.std.specs.Prelude.{◌≡◌, ℕ, ◌==◌, ◌&&◌, ◌||◌, not, Bool, List, length, Option}
use Rattle.std.specs.List.{list_any}
use Rattle.feed_values.specs.Snapshot.{entity_payloads, entity_of}
use Rattle.timetable.specs.Timetables.{Tables}
use Rattle.rule_table.specs.declared.rule.RuleId.TheVariants.{E012, E050}
use Rattle.rule_table.specs.Rules.{same_rule}
use Rattle.rule_table.specs.Pairs.{rows_of}
use Rattle.rule_table.specs.Peaks.{vehicle_id_of}
use Rattle.rule_history.specs.History.{Snapshot, Keyed, entities_in, entities_of_snapshot, below, feed_limit}
use Rattle.rule_history.specs.Answered.{payload_under}
use Rattle.rule_history.specs.Findings.{findings}
use Rattle.rule_history.specs.Changed.{with, is_payload, is_paired, keeps_bounds, has_moved, count_of, tested, paired, bounded, peaked}
use Rattle.rule_history.specs.Standing.{Standing, Spot, opened, closed}
use Rattle.engine_laws.specs.HeldFeeds.{HeldFeed, list_under, rows_held, opened_in, closed_in}

-- how many snapshots were before, how many entities this one has, what it opened and closed, and four counts of entities
pub record Delta : Type 0 where
  pub snapshot : ℕ
  pub entities : ℕ
  pub opened : List Standing
  pub closed : List Spot
  pub tested : ℕ
  pub paired : ℕ
  pub bounded : ℕ
  pub peaked : ℕ

-- It is what a snapshot changes after a history, where the list is the one of the longer history: the findings that weren't
-- there with the same facts, each with its number; the rules at places that stood and don't; and how many entities are new,
-- or concerned by rows that came or went, by a bound that moved, or by a peak that is another.
pub record IsDelta (t : Option Tables) (g : List Snapshot) (s : Snapshot) (list : List Standing) (d : Delta) : Type 0 where
  pub snapshot_is : d.snapshot ≡ length g
  pub entities_is : d.entities ≡ length (entity_payloads s.bytes)
  pub opened_is : d.opened ≡ opened (findings t g) list
  pub closed_is : d.closed ≡ closed (findings t g) (findings t (with g s))
  pub tested_is : d.tested ≡ tested g s
  pub paired_is : d.paired ≡ paired g s
  pub bounded_is : d.bounded ≡ bounded t g s
  pub peaked_is : d.peaked ≡ peaked g s

-- ---- the counts by what is held
-- whether an entity isn't under its key among some, or has another byte string there
abbrev pub is_other : List Keyed → Keyed → Bool
is_other old e = not (is_payload e.1 (payload_under e.0 old))

-- whether a bound stands in a list
abbrev pub has_limit : List Standing → Bool
has_limit xs = list_any (λ x. same_rule x.finding.rule E012 || same_rule x.finding.rule E050) xs

abbrev pub is_new : HeldFeed → Keyed → Bool
is_new old e = is_other (entities_of_snapshot old.last) e

abbrev pub is_limited : Snapshot → HeldFeed → HeldFeed → Keyed → Bool
is_limited s old new e = not (keeps_bounds s old.last) && (has_limit (list_under e.0 old.entities) || has_limit (list_under e.0 new.entities))

-- whether the vehicle of an entity has another peak
abbrev pub is_moved : HeldFeed → HeldFeed → Keyed → Bool
is_moved old new e = has_moved old.peaks new.peaks (vehicle_id_of (entity_of e.1))

-- how many entities of a snapshot are new or have another byte string
abbrev pub tested_held : Snapshot → (ℕ → HeldFeed) → ℕ
tested_held s old = count_of (is_new (old s.feed)) (entities_in s.feed s.bytes)

-- how many of all feeds do so, or have a row that shares an id with one that came or went, or are of a kind whose counterpart got its first row
-- or lost its last one
abbrev pub paired_held : Snapshot → (ℕ → HeldFeed) → (ℕ → HeldFeed) → ℕ
paired_held s old new =
    count_of (λ e. (e.0.feed == s.feed && is_new (old s.feed) e) || is_paired (rows_held old) (rows_held new) (rows_of e.0 (entity_of e.1))) (below (λ f. entities_of_snapshot (new f).last) feed_limit)

-- how many of the snapshot do so, or are limited
abbrev pub bounded_held : Snapshot → (ℕ → HeldFeed) → (ℕ → HeldFeed) → ℕ
bounded_held s old new = count_of (λ e. is_new (old s.feed) e || is_limited s (old s.feed) (new s.feed) e) (entities_in s.feed s.bytes)

-- how many of the snapshot do so, or have a vehicle with another peak
abbrev pub peaked_held : Snapshot → (ℕ → HeldFeed) → (ℕ → HeldFeed) → ℕ
peaked_held s old new = count_of (λ e. is_new (old s.feed) e || is_moved (old s.feed) (new s.feed) e) (entities_in s.feed s.bytes)

-- What is owed of a delta: how many snapshots were taken, how many entities there are, what opened and closed list by list, and
-- the four counts.
pub record IsChange (applied : ℕ) (s : Snapshot) (old new : ℕ → HeldFeed) (d : Delta) : Type 0 where
  pub snapshot_is : d.snapshot ≡ applied
  pub entities_is : d.entities ≡ length (entity_payloads s.bytes)
  pub opened_is : d.opened ≡ below (λ f. opened_in (old f) (new f)) feed_limit
  pub closed_is : d.closed ≡ below (λ f. closed_in (old f) (new f)) feed_limit
  pub tested_is : d.tested ≡ tested_held s old
  pub paired_is : d.paired ≡ paired_held s old new
  pub bounded_is : d.bounded ≡ bounded_held s old new
  pub peaked_is : d.peaked ≡ peaked_held s old new

-- The counts of a snapshot after a history are those by what is held of each feed before it and after it.
pub record AreCounts (t : Option Tables) (g : List Snapshot) (s : Snapshot) (old new : ℕ → HeldFeed) : Type 0 where
  pub tested_is : tested g s ≡ tested_held s old
  pub paired_is : paired g s ≡ paired_held s old new
  pub bounded_is : bounded t g s ≡ bounded_held s old new
  pub peaked_is : peaked g s ≡ peaked_held s old new
