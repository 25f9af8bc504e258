use Rattle.std.proofs.Common.{◌≡◌, map}
use Rattle.feed_values.specs.Snapshot.{snapshot_value}
use Rattle.feed_merge.specs.Union.{greatest_stamp}
use Rattle.feed_merge.proofs.Parts.{front, union_bytes}
use Rattle.feed_merge.proofs.writing.merged_bytes.Given as goal

abbrev pub invariant-loop-number : goal.invariant-loop-number
invariant-loop-number l = l.bytes.items ≡ union_bytes (greatest_stamp (map snapshot_value l.feeds)) (front snapshot_value l.feed-items l.number)
