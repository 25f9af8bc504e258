use Rattle.std.proofs.Common.{map, ap, Err}
use Rattle.feed_values.specs.Snapshot.{snapshot_value}
use Rattle.feed_merge.specs.Union.{united}
use Rattle.run_merge.specs.Merged.{union_report}
use Rattle.run_merge.proofs.Writes.{large_told, memory_told, small_written}
use Rattle.run_merge.proofs.command.write_union.Goals as goal

pub returns-in-Ok : goal.returns-in-Ok
returns-in-Ok g c =
    small_written _ _ _ _ c.write_bytes.result (united (map snapshot_value c.args.feeds.now)) _ _ c.deref.ensures.value c.in-Ok.ensures.ok c.in-Ok.ensures.small c.write_bytes.ensures

pub returns-in-Err-TooLarge : goal.returns-in-Err-TooLarge
returns-in-Err-TooLarge g c =
    large_told (united (map snapshot_value c.args.feeds.now)) _ _ _ c.say.result (c.in-Err-TooLarge.ensures.too_large (ap (λ e. Err e) c.in-Err-TooLarge.field-0-is)) c.say.ensures

pub returns-in-Err-Memory : goal.returns-in-Err-Memory
returns-in-Err-Memory g c = memory_told (union_report (united (map snapshot_value c.args.feeds.now))) _ _ _ c.say_memory.result c.say_memory.ensures
