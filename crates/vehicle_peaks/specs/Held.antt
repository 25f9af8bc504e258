-- The byte strings of entities that are held.
use Rattle.std.specs.Prelude.{ℕ, List, Option}
use Rattle.rule_table.specs.declared.key.EntityKey.{EntityKey}
use Rattle.rule_history.specs.Answered.{payload_under}
use Rattle.entity_index.specs.Held.{HeldEntities, entities_before, held_at}

-- that under a key among the entities of a feed, if there is one
abbrev pub payload_in : List HeldEntities → ℕ → EntityKey → Option (List ℕ)
payload_in index feed key = payload_under key (entities_before feed (held_at index feed).bytes)
