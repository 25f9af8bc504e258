use Rattle.feed_values.specs.Snapshot.{entity_of}
use Rattle.snapshot_keys.proofs.ByIds.{entity_more}
use Rattle.snapshot_keys.proofs.rows.add_rows.Goals as goal

pub returns : goal.returns
returns c before h =
    entity_more c.args.key.now (entity_of c.args.entity.now) before _ _ _ c.in_ok-ids.ensures.update c.in_ok-ids.ensures.vehicle (c.in_ok-add_row-2.ensures _ (c.in_ok-add_row.ensures before h))
