-- The entities of a snapshot under their keys, each by its number.
use Rattle.std.specs.Prelude.{◌≡◌, ◌<◌, ℕ, List, [], length, map, get_or}
use Rattle.feed_values.specs.Schema.{Value}
use Rattle.feed_values.specs.Messages.{entity}
use Rattle.feed_values.specs.Snapshot.{entities_of, entity_of, entity_payloads}
use Rattle.rule_table.specs.Groups.{Each}
use Rattle.judging.specs.Seats.{Seat, seats}
use Rattle.snapshot_keys.specs.declared.placing.EntityPlace.{EntityPlace}

-- numbers of entities under keys
abbrev pub Places : Type 0
Places = List EntityPlace

-- the entity of a snapshot that has a number
abbrev pub entity_at : List ℕ → ℕ → Value entity
entity_at bytes number = entity_of (get_or (entity_payloads bytes) number [])

abbrev pub placed : List ℕ → Places → List Seat
placed bytes es = map (λ e. (e.key, entity_at bytes e.number)) es

-- the snapshot has an entity for each number
abbrev pub AreWithin : List ℕ → Places → Type 0
AreWithin bytes es = Each (λ e. e.number < length (entity_payloads bytes)) es

-- each entity of the snapshot is there, under its key and in the order of keys
pub record ArePlaces (feed : ℕ) (bytes : List ℕ) (es : Places) : Type 0 where
  pub seats_are : placed bytes es ≡ seats feed (entities_of bytes)
  pub within : AreWithin bytes es
