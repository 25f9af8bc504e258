-- The entities of a snapshot by their ids, each with its number.
use Rattle.std.specs.Prelude.{◌≡◌, ◌<◌, ◌+◌, ℕ, Bool, List, Option, Some, None, length, map, filter, bytes_eq, if◌then◌else◌}
use Rattle.std.specs.List.{All}
use Rattle.std.specs.List.Sorted.{IsSortedByKey}
use Rattle.std.specs.Ordering.{nat_cmp}
use Rattle.std.specs.Cmp.Lexicographic.{slice_cmp}
use Rattle.feed_values.specs.Schema.{Value}
use Rattle.feed_values.specs.Messages.{entity}
use Rattle.feed_values.specs.Snapshot.{entities_of, entity_payloads}
use Rattle.rule_table.specs.declared.key.EntityKey.{EntityKey}
use Rattle.judging.specs.Seats.{id_of}
use Rattle.snapshot_keys.specs.declared.placing.EntityPlace.{EntityPlace}
use Rattle.snapshot_keys.specs.declared.placing.NamedEntity.{NamedEntity}
use Rattle.snapshot_keys.specs.Places.{entity_at}

abbrev pub entities_at : List ℕ → List NamedEntity → List (Value entity)
entities_at bytes ns = map (λ n. entity_at bytes n.number) ns

-- the snapshot has the entity, and it has that id
pub record IsNamed (bytes : List ℕ) (n : NamedEntity) : Type 0 where
  pub within : n.number < length (entity_payloads bytes)
  pub id : n.id.now ≡ id_of (entity_at bytes n.number)

-- all of a snapshot, in its order
pub record AreNamed (bytes : List ℕ) (ns : List NamedEntity) : Type 0 where
  pub named : All (IsNamed bytes) ns
  pub are : entities_at bytes ns ≡ entities_of bytes

abbrev pub has_id : List ℕ → Value entity → Bool
has_id id e = bytes_eq (id_of e) id

-- all of a snapshot, in the order of their ids, and those of one id in the snapshot's order
pub record AreById (bytes : List ℕ) (ns : List NamedEntity) : Type 0 where
  pub named : All (IsNamed bytes) ns
  pub ascend : IsSortedByKey (λ n. n.id.now) (slice_cmp nat_cmp) ns
  pub of_id : (id : List ℕ) → filter (has_id id) (entities_at bytes ns) ≡ filter (has_id id) (entities_of bytes)

-- the key of an entity with an id, behind what comes last before it in the order of ids
abbrev pub key_behind : ℕ → Option EntityPlace → List ℕ → EntityKey
key_behind feed None id = record { feed = feed; id = id; occurrence = 0 }
key_behind feed (Some last) id = record { feed = feed; id = id; occurrence = if bytes_eq last.key.id id then last.key.occurrence + 1 else 0 }
