-- One part of entities judged again, where they are held.
use Rattle.std.specs.Prelude.{◌≡◌, ℕ, List, [], map, Option, Some, None, option_map, unwrap_or, if◌then◌else◌}
use Rattle.feed_values.specs.Schema.{Value}
use Rattle.feed_values.specs.Messages.{entity}
use Rattle.feed_values.specs.Snapshot.{entity_of}
use Rattle.rule_table.specs.declared.key.EntityKey.{EntityKey}
use Rattle.rule_table.specs.Found.{Found}
use Rattle.rule_history.specs.Answered.{payload_under}
use Rattle.rule_history.specs.Standing.{Standing}
use Rattle.engine_laws.specs.Standings.{renewed}
use Rattle.entity_parts.specs.part_laws.Touched.{is_among}
use Rattle.entity_index.specs.Held.{HeldEntities, entities_before, held_at, parts_at}
use Rattle.entity_index.specs.Lists.{Lists, no_lists, list_of, with_list}
use Rattle.touched_entities.specs.Told.{AreTolds, FeedTold, Told, header_told, plus, told_at, told_between}

-- ---- what is held under a key
-- the four lists, if an entity is there
abbrev pub lists_at : List HeldEntities → EntityKey → Option Lists
lists_at index key = parts_at key (held_at index key.feed).parts

abbrev pub lists_under : List HeldEntities → EntityKey → Lists
lists_under index key = unwrap_or (lists_at index key) no_lists

-- that of a number
abbrev pub list_under : List HeldEntities → EntityKey → ℕ → List Standing
list_under index key part = list_of (lists_under index key) part

-- the byte string of the entity
abbrev pub payload_at : List HeldEntities → EntityKey → Option (List ℕ)
payload_at index key = payload_under key (entities_before key.feed (held_at index key.feed).bytes)

-- the same snapshots are held, and the same entities
pub record AreSameFeeds (old new : List HeldEntities) : Type 0 where
  pub bytes_are : (f : ℕ) → (held_at new f).bytes ≡ (held_at old f).bytes
  pub keys_are : (f : ℕ) → map (λ c. c.0) (held_at new f).parts ≡ map (λ c. c.0) (held_at old f).parts

-- ---- what a part finds
abbrev pub FindPart : Type 0
FindPart = EntityKey → Value entity → List Found

abbrev pub found_in : FindPart → EntityKey → Option (List ℕ) → List Found
found_in find key None = []
found_in find key (Some p) = find key (entity_of p)

-- at the entity under a key
abbrev pub found_under : FindPart → List HeldEntities → EntityKey → List Found
found_under find index key = found_in find key (payload_at index key)

-- the list of a number renewed by it
abbrev pub list_renewed : ℕ → ℕ → FindPart → List HeldEntities → EntityKey → List Standing
list_renewed part n find index key = renewed (list_under index key part) n (found_under find index key)

abbrev pub renewed_under : ℕ → ℕ → FindPart → List HeldEntities → EntityKey → Option Lists
renewed_under part n find index key = option_map (λ l. with_list l part (list_renewed part n find index key)) (lists_at index key)

-- and what that opens and closes
abbrev pub told_renewed : ℕ → ℕ → FindPart → List HeldEntities → EntityKey → Told
told_renewed part n find index key = told_between (list_under index key part) (list_renewed part n find index key)

-- ---- some entities
-- what is under a key once a part of some was judged
abbrev pub lists_then : ℕ → ℕ → FindPart → List EntityKey → List HeldEntities → EntityKey → Option Lists
lists_then part n find keys index key = if is_among keys key then renewed_under part n find index key else lists_at index key

-- and what was told there
abbrev pub told_then : ℕ → ℕ → FindPart → List EntityKey → List HeldEntities → List FeedTold → EntityKey → Told
told_then part n find keys index tolds key = if is_among keys key then plus (told_at tolds key) (told_renewed part n find index key) else told_at tolds key

-- A part of the entities under some keys is renewed by what is found there, with what that opens and closes; all else stays.
pub record IsPassed (part n : ℕ) (find : FindPart) (keys : List EntityKey) (old new : List HeldEntities) (before after : List FeedTold) : Type 0 where
  pub lists_are : (key : EntityKey) → lists_at new key ≡ lists_then part n find keys old key
  pub feeds_are : AreSameFeeds old new
  pub told_are : (key : EntityKey) → told_at after key ≡ told_then part n find keys old before key
  pub headers_are : (f : ℕ) → header_told after f ≡ header_told before f
  pub tolds_are : AreTolds before → AreTolds after
