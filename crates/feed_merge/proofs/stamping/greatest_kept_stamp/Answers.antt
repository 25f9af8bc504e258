use Rattle.std.proofs.Common.{ap, ◌∙◌}
use Rattle.feed_values.specs.Schema.{Value}
use Rattle.feed_values.specs.Messages.{feed_header}
use Rattle.feed_values.specs.Snapshot.{snapshot_value, timestamp_of}
use Rattle.feed_merge.proofs.Stamps.{stamps_next}
use Rattle.feed_merge.proofs.stamping.greatest_kept_stamp.Goals as goal

pub loop-feed-preserved : goal.loop-feed-preserved
loop-feed-preserved c =
    c.greater_stamp-greatest.ensures _ c.loop-feed.invariant
    ∙ stamps_next snapshot_value c.as_slice-feed-items.result.now c.loop-feed.feed-index c.feed-item.result _ c.loop-feed-test.true c.feed-item.is
    (ap (λ (h : Value feed_header). timestamp_of h) (c.in_ok-header.ensures.value ∙ c.header_parts.ensures.header))
