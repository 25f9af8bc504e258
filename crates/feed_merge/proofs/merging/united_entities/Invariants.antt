use Rattle.std.proofs.Common.{◌≡◌, map}
use Rattle.feed_values.specs.Views.{entity_value, feed_message_value}
use Rattle.feed_merge.proofs.Parts.{front}
use Rattle.feed_merge.proofs.merging.united_entities.Given as goal

abbrev pub invariant-loop-number : goal.invariant-loop-number
invariant-loop-number l = map entity_value l.entities ≡ front feed_message_value l.feed-items l.number
