-- The rows and timestamps of all feeds, before a snapshot, while its entities are taken one after the other, and after it.
use Rattle.std.specs.Prelude.{◌≡◌, ◌↔◌, ℕ, ◌==◌, nat_lt, pos, Bool, true, false, ◌&&◌, List, [], ◌∷◌, ◌++◌, Option, Some, None, option_map, if◌then◌else◌}
use Rattle.std.specs.List.{list_any, flat_map}
use Rattle.std.specs.List.Sorted.{IsStrictlySortedBy}
use Rattle.feed_values.specs.declared.slot.Slot.{Slot}
use Rattle.feed_values.specs.Schema.{Value}
use Rattle.feed_values.specs.Messages.{entity}
use Rattle.feed_values.specs.Cells.{entity_cell}
use Rattle.feed_values.specs.Snapshot.{entity_of}
use Rattle.rule_table.specs.declared.kind.Kind.TheVariants.{TripUpdate, Vehicle}
use Rattle.rule_table.specs.declared.key.EntityKey.{EntityKey}
use Rattle.rule_table.specs.Order.{same_key}
use Rattle.rule_table.specs.Pairs.{PairRow, any_row, has_row}
use Rattle.rule_table.specs.Bounds.{IsAbove, is_timestamp}
use Rattle.rule_history.specs.History.{entities_of_snapshot, feed_limit}
use Rattle.rule_history.specs.Answered.{payload_under}
use Rattle.rule_history.specs.Changed.{changed_rows, is_paired}
use Rattle.engine_laws.specs.HeldFeeds.{HeldFeed, IsLastOf, rows_held}
use Rattle.pairing_rules.specs.Rows.{row_cmp}
use Rattle.pairing_rules.specs.ByKind.{AreAlike}
use Rattle.history_rules.specs.Stamps.{Stamp, holds}
use Rattle.row_changes.specs.declared.held.HeldRows.{HeldRows}
use Rattle.row_changes.specs.declared.ids.ChangedIds.{ChangedIds}
use Rattle.row_changes.specs.declared.kinds.Kinds.{Kinds}
use Rattle.row_changes.specs.Given.{rows_under, is_given}
use Rattle.row_changes.specs.Ids.{GiveIds, has_text}
use Rattle.row_changes.specs.Updated.{IsUpdated, AreNoted}
use Rattle.row_changes.specs.Touched.{is_paired_key, is_over, gives_later}

-- an entity under each key, or none
abbrev pub Entities : Type 0
Entities = EntityKey → Option (Value entity)

-- that of the last snapshots of the feeds
abbrev pub entity_at : (ℕ → HeldFeed) → Entities
entity_at feeds key = if nat_lt key.feed feed_limit then option_map entity_of (payload_under key (entities_of_snapshot (feeds key.feed).last)) else None

-- The rows and timestamps that are held are exactly those of some entities.
pub record AreOfEntities (at : Entities) (held : HeldRows) : Type 0 where
  pub rows_are : (r : PairRow) → has_row held.pairs r ≡ has_row (rows_under r.key (at r.key)) r
  pub stamps_are : (s : Stamp) → holds held.stamps s ≡ is_given (at s.key) s

abbrev pub NothingIsHeld : Type 0
NothingIsHeld = (at : Entities) → ((key : EntityKey) → at key ≡ None) → (held : HeldRows) → held.pairs ≡ [] → held.stamps ≡ [] → AreOfEntities at held

-- So the rows are those of the feeds, and in their order answer as these do.
abbrev pub AreHeldRows : Type 0
AreHeldRows = (feeds : ℕ → HeldFeed) → ((f : ℕ) → IsLastOf f (feeds f).last) → (held : HeldRows) → AreOfEntities (entity_at feeds) held → (r : PairRow) → has_row held.pairs r ≡ has_row (rows_held feeds) r

abbrev pub AreAlikeHeld : Type 0
AreAlikeHeld = (feeds : ℕ → HeldFeed) → ((f : ℕ) → IsLastOf f (feeds f).last) → (held : HeldRows) → AreOfEntities (entity_at feeds) held → IsStrictlySortedBy row_cmp held.pairs → AreAlike held.pairs (rows_held feeds)

-- ---- some keys are done
abbrev pub is_done : List EntityKey → EntityKey → Bool
is_done done key = list_any (same_key key) done

-- the new entity at the keys that are done, and the old one at the others
abbrev pub replaced : Entities → Entities → List EntityKey → Entities
replaced old new done key = if is_done done key then new key else old key

-- the rows that came or went at some keys
abbrev pub changed_at : Entities → Entities → List EntityKey → List PairRow
changed_at old new done = flat_map (λ k. changed_rows (rows_under k (old k)) (rows_under k (new k))) done

pub record AreReplaced (old new : Entities) (done : List EntityKey) (held : HeldRows) (ids : ChangedIds) : Type 0 where
  pub held_are : AreOfEntities (replaced old new done) held
  pub ids_are : GiveIds ids (changed_at old new done)

-- nothing is done yet
abbrev pub StartReplaces : Type 0
StartReplaces = (old new : Entities) (held : HeldRows) (ids : ChangedIds) → AreOfEntities old held → ((q : List ℕ) → has_text ids.trips q ≡ false) → ((q : List ℕ) → has_text ids.vehicles q ≡ false) → AreReplaced old new [] held ids

-- one more key is done by one update, where it isn't done yet
abbrev pub UpdateReplaces : Type 0
UpdateReplaces = (old new : Entities) (done : List EntityKey) (key : EntityKey) (before after : HeldRows) (had has : ChangedIds) → AreReplaced old new done before had → is_done done key ≡ false → IsUpdated key (old key) (new key) before after → AreNoted key (old key) (new key) had has →
    AreReplaced old new (done ++ key ∷ []) after has

-- Once all keys are done at which something changed, the rows and timestamps are those of the new feeds, and the ids are those of the rows that
-- came or went in all.
pub record AreAllReplaced (before after : ℕ → HeldFeed) (held : HeldRows) (ids : ChangedIds) : Type 0 where
  pub held_are : AreOfEntities (entity_at after) held
  pub ids_are : GiveIds ids (changed_rows (rows_held before) (rows_held after))

abbrev pub AllIsReplaced : Type 0
AllIsReplaced = (before after : ℕ → HeldFeed) → ((f : ℕ) → IsLastOf f (before f).last) → ((f : ℕ) → IsLastOf f (after f).last) → (done : List EntityKey) → ((k : EntityKey) → is_done done k ≡ false → entity_at before k ≡ entity_at after k) →
    (held : HeldRows) (ids : ChangedIds) → AreReplaced (entity_at before) (entity_at after) done held ids → AreAllReplaced before after held ids

-- ---- what the keys say
-- kinds are those of the rows before
pub record AreKindsOf (kinds : Kinds) (rows : List PairRow) : Type 0 where
  pub updates_are : kinds.updates ≡ any_row rows TripUpdate
  pub vehicles_are : kinds.vehicles ≡ any_row rows Vehicle

-- A key is one to be judged again with pairing rows exactly where the entity that is there now is concerned.
abbrev pub PairedKeysAre : Type 0
PairedKeysAre = (before after : ℕ → HeldFeed) → ((f : ℕ) → IsLastOf f (before f).last) → ((f : ℕ) → IsLastOf f (after f).last) → (held : HeldRows) (ids : ChangedIds) (kinds : Kinds) → AreAllReplaced before after held ids →
    AreKindsOf kinds (rows_held before) → (key : EntityKey) → is_paired_key ids kinds held.pairs key ≡ is_paired (rows_held before) (rows_held after) (rows_under key (entity_at after key))

-- A timestamp of a key is above a bound exactly where one of its entity is.
abbrev pub OverKeysAre : Type 0
OverKeysAre = (at : Entities) (held : HeldRows) → AreOfEntities at held → (feed bound : ℕ) (key : EntityKey) → is_over feed bound held.stamps key ≡ (key.feed == feed && gives_later bound (at key))

-- No timestamp of an entity is above a bound where none is, slot by slot.
abbrev pub NoneIsLater : Type 0
NoneIsLater = (bound : ℕ) (e : Value entity) → (gives_later bound (Some e) ≡ false) ↔ ((slot : Slot) → is_timestamp slot ≡ true → IsAbove (entity_cell e slot 0) (Some (pos bound)) → ⊥)
