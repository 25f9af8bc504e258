-- What is held of feeds.
use Rattle.std.specs.Prelude.{ℕ, List, [], map, Option, Some, None, option_map, get_or}
use Rattle.std.specs.List.{find}
use Rattle.feed_values.specs.Schema.{Value}
use Rattle.feed_values.specs.Messages.{entity}
use Rattle.feed_values.specs.Snapshot.{entity_of}
use Rattle.rule_table.specs.declared.key.EntityKey.{EntityKey}
use Rattle.rule_table.specs.Order.{same_key}
use Rattle.rule_history.specs.History.{Keyed, entities_in}
use Rattle.entity_index.specs.Lists.{Lists}

-- four lists under the keys of entities
abbrev pub KeyedParts : Type 0
KeyedParts = List (EntityKey × Lists)

-- the bytes of the last snapshot of a feed, if it has one, and the four lists of each of its entities, in the order of their keys
pub record HeldEntities : Type 0 where
  pub bytes : Option (List ℕ)
  pub parts : KeyedParts

abbrev pub nothing : HeldEntities
nothing = record { bytes = None; parts = [] }

-- what is held of the feed of a number; a feed past the end of the list has nothing
abbrev pub held_at : List HeldEntities → ℕ → HeldEntities
held_at list f = get_or list f nothing

-- the entities of a feed under their keys, each as its byte string, by the bytes of its last snapshot
abbrev pub entities_before : ℕ → Option (List ℕ) → List Keyed
entities_before f None = []
entities_before f (Some bytes) = entities_in f bytes

-- values of entities under their keys
abbrev pub KeyedValues : Type 0
KeyedValues = List (EntityKey × Value entity)

-- entities under their keys, each as what its byte string means
abbrev pub values_of : List Keyed → KeyedValues
values_of es = map (λ e. (e.0, entity_of e.1)) es

-- what a list has under a key
abbrev pub at_key : {A : Type 0} → EntityKey → List (EntityKey × A) → Option A
at_key key es = option_map (λ e. e.1) (find (λ e. same_key e.0 key) es)

-- the four lists under a key
abbrev pub parts_at : EntityKey → KeyedParts → Option Lists
parts_at key parts = at_key key parts
