use Rattle.std.proofs.Common.{refl, ◌∙◌}
use Rattle.feed_values.specs.Views.{feed_message_value}
use Rattle.feed_merge.proofs.Stamps.{stamps_next}
use Rattle.feed_merge.proofs.stamping.greatest_stamp.Goals as goal

pub loop-feed-preserved : goal.loop-feed-preserved
loop-feed-preserved c =
    c.greater_stamp-greatest.ensures _ c.loop-feed.invariant
    ∙ stamps_next feed_message_value c.as_slice-feed-items.result.now c.loop-feed.feed-index c.feed-item.result _ c.loop-feed-test.true c.feed-item.is refl
