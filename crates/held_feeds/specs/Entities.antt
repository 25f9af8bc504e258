-- The entities of the snapshots that are held, as values.
use Rattle.std.specs.Prelude.{◌≡◌, List, [], ◌∷◌, ◌++◌, Option, Some, None}
use denote.Ref.{Bor}
use Rattle.feed_values.specs.declared.entity.Entity.{Entity}
use Rattle.rule_table.specs.declared.key.EntityKey.{EntityKey}
use Rattle.rule_history.specs.History.{Snapshot, entities_of_snapshot, below, feed_limit, now}
use Rattle.cached_laws.specs.entity_index.Held.{KeyedValues, values_of}
use Rattle.cached_laws.specs.entity_index.Handed.{keyed_value}
use Rattle.cached_laws.specs.State.{State, feed_of}

-- those of a snapshot, if there is one, in the order of their keys
abbrev pub entities_said : Option Snapshot → KeyedValues
entities_said snapshot = values_of (entities_of_snapshot snapshot)

-- those of the last snapshot of each feed that is held, one feed after the other
abbrev pub entities_held : State → KeyedValues
entities_held state = below (λ f. entities_said (feed_of state f).last) feed_limit

-- those of the last snapshot of each feed of a history
abbrev pub entities_after : List Snapshot → KeyedValues
entities_after h = below (λ f. entities_said (now h f)) feed_limit

-- what is left, where the next one is at hand or none is left of its feed
abbrev pub Left : Option (Bor EntityKey × Bor Entity) → KeyedValues → KeyedValues → KeyedValues → Type 0
Left None here feeds all = (here ≡ []) × (feeds ≡ all)
Left (Some x) here feeds all = keyed_value x ∷ (here ++ feeds) ≡ all
