use Rattle.std.proofs.Common.{length}
use Rattle.std.specs.List.{flat_map}
use Rattle.cached_laws.specs.entity_index.Handed.{listed}
use Rattle.held_feeds.specs.Entities.{Left, entities_said}
use Rattle.held_feeds.proofs.entities.EntitiesIterIterator.next.Given as goal

abbrev pub invariant-loop-next : goal.invariant-loop-next
invariant-loop-next l = Left l.next (listed l.self-inside.at_hand) (flat_map (λ feed. entities_said feed.last) l.self-inside.feeds) l.fn.self

abbrev pub decreases-loop-next : goal.decreases-loop-next
decreases-loop-next l = length l.self-inside.feeds
