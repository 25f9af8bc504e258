use Rattle.std.proofs.Common.{◌≡◌, map, take}
use Rattle.feed_values.specs.Snapshot.{snapshot_value}
use Rattle.feed_values.specs.Views.{natural}
use Rattle.feed_merge.specs.Union.{greatest_stamp}
use Rattle.feed_merge.proofs.stamping.greatest_kept_stamp.Given as goal

abbrev pub invariant-loop-feed : goal.invariant-loop-feed
invariant-loop-feed l = natural l.greatest ≡ greatest_stamp (map snapshot_value (take l.feed-index l.feed-items))
