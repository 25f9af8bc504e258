-- The entities of a snapshot under their keys.
use Rattle.std.specs.Prelude.{ℕ, ◌+◌, List, [], ◌∷◌, ◌++◌, map, bytes_eq, if◌then◌else◌}
use denote.Ref.{Bor}
pub use Rattle.rule_table.specs.Counts.{count_in}
pub use Rattle.rule_table.specs.Rises.{Rising}
use Rattle.feed_values.specs.Schema.{Value}
use Rattle.feed_values.specs.Messages.{entity}
use Rattle.feed_values.specs.declared.entity.Entity.{Entity}
use Rattle.feed_values.specs.Views.{entity_value}
use Rattle.rule_table.specs.declared.key.EntityKey.{EntityKey}
use Rattle.rule_history.specs.History.{ordered_after}

-- an entity under its key
abbrev pub Seat : Type 0
Seat = EntityKey × Value entity

abbrev pub id_of : Value entity → List ℕ
id_of e = e.0

-- how many of some entities have an id
abbrev pub count_id : List (Value entity) → List ℕ → ℕ
count_id [] id = 0
count_id (e ∷ es) id = (if bytes_eq (id_of e) id then 1 else 0) + count_id es id

-- the entities of a feed's snapshot under their keys, in its order, after those that stand before them: an occurrence counts the
-- entities before with that id
abbrev pub seated_after : ℕ → List (Value entity) → List (Value entity) → List Seat
seated_after f done [] = []
seated_after f done (e ∷ es) = (record { feed = f; id = id_of e; occurrence = count_id done (id_of e) }, e) ∷ seated_after f (done ++ e ∷ []) es

-- and in the order of their keys
abbrev pub seats : ℕ → List (Value entity) → List Seat
seats f es = ordered_after [] (seated_after f [] es)

-- entries by the values of their entities
abbrev pub seat_values : List (EntityKey × Bor Entity) → List Seat
seat_values entries = map (λ e. (e.0, entity_value e.1.now)) entries
