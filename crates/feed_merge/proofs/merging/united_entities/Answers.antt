use Rattle.feed_values.specs.Views.{feed_message_value}
use Rattle.feed_merge.proofs.Parts.{entities_next}
use Rattle.feed_merge.proofs.merging.united_entities.Goals as goal

pub loop-number-preserved : goal.loop-number-preserved
loop-number-preserved c =
    entities_next feed_message_value c.as_slice-feed-items.result.now c.loop-number.number c.feed-item.result _ _ c.loop-number-test.true c.feed-item.is c.loop-number.invariant c.in_ok-push_entities.ensures
