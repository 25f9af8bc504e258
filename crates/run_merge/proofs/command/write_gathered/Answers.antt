use Rattle.std.proofs.Common.{map, refl}
use Rattle.feed_values.specs.Snapshot.{snapshot_value}
use Rattle.feed_merge.specs.Union.{united}
use Rattle.run_merge.proofs.Writes.{none_left, none_refused, some_left, some_refused}
use Rattle.run_merge.proofs.command.write_gathered.Goals as goal

pub returns-then-is_empty : goal.returns-then-is_empty
returns-then-is_empty g c =
    none_refused _ _ _ _ c.write_union.result c.args.gathered.now.feeds (united (map snapshot_value c.args.gathered.now.feeds)) c.args.gathered.now.refused.items (none_left c.args.gathered.now.refused c.is_empty.result c.is_empty.ensures c.if-is_empty.true) refl c.write_union.ensures

pub returns-else-is_empty : goal.returns-else-is_empty
returns-else-is_empty g c =
    some_refused _ _ _ _ c.write_bytes.result c.args.gathered.now.feeds c.args.gathered.now.refused.items _ (some_left c.args.gathered.now.refused c.is_empty.result c.is_empty.ensures c.if-is_empty.false) c.deref.ensures.value c.write_bytes.ensures
