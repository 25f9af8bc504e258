use Rattle.std.proofs.Common.{◌≡◌, ◌++◌, map, take}
use Rattle.feed_values.specs.Views.{entity_value}
use Rattle.feed_merge.specs.Union.{prefixed}
use Rattle.feed_merge.proofs.renaming.push_entities.Given as goal

abbrev pub invariant-loop-entity : goal.invariant-loop-entity
invariant-loop-entity l = map entity_value l.entities ≡ map entity_value l.fn.entities ++ map (prefixed l.feed) (map entity_value (take l.entity-index l.entity-items))
