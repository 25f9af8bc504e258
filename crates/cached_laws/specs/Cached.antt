-- What an entity's four lists are: what each part finds there.
use Rattle.std.specs.Prelude.{◌≡◌, ℕ, List, [], Option, Some, None}
use Rattle.feed_values.specs.Snapshot.{header_of, timestamp_of}
use Rattle.timetable.specs.Timetables.{Tables}
use Rattle.rule_table.specs.declared.key.EntityKey.{EntityKey}
use Rattle.rule_history.specs.History.{Snapshot}
use Rattle.engine_laws.specs.HeldFeeds.{HeldFeed, rows_held}
use Rattle.engine_laws.specs.Standings.{findings_of}
use Rattle.touched_entities.specs.entity_index.Held.{HeldEntities}
use Rattle.touched_entities.specs.entity_parts.Found.{local_found, paired_found, bounded_found, peaked_found}
use Rattle.touched_entities.specs.Again.{FindPart, found_under, list_under}

-- what bounds find by the last snapshot of a feed
abbrev pub bounded_by : Option Snapshot → FindPart
bounded_by None key e = []
bounded_by (Some s) key e = bounded_found (timestamp_of (header_of s.bytes)) s.moment key e

-- by that of the entity's feed
abbrev pub bounded_in : (ℕ → HeldFeed) → FindPart
bounded_in feeds key e = bounded_by (feeds key.feed).last key e

-- what the peaks of all feeds find
abbrev pub peaked_in : (ℕ → HeldFeed) → FindPart
peaked_in feeds = peaked_found (λ f. (feeds f).peaks)

-- The first list has what is found with the timetable, the second with the pairing rows of all feeds, the third by bounds, and the fourth by peaks.
pub record AreCached (t : Option Tables) (index : List HeldEntities) (feeds : ℕ → HeldFeed) : Type 0 where
  pub local_are : (key : EntityKey) → findings_of (list_under index key 0) ≡ found_under (local_found t) index key
  pub paired_are : (key : EntityKey) → findings_of (list_under index key 1) ≡ found_under (paired_found (rows_held feeds)) index key
  pub bounded_are : (key : EntityKey) → findings_of (list_under index key 2) ≡ found_under (bounded_in feeds) index key
  pub peaked_are : (key : EntityKey) → findings_of (list_under index key 3) ≡ found_under (peaked_in feeds) index key
