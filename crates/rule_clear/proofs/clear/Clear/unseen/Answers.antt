use Rattle.feed_values.specs.Views.{entity_value, trip_update_value, vehicle_position_value}
use Rattle.rule_clear.proofs.Cleared.{none_held}
use Rattle.rule_clear.proofs.NoneWithout.{messages_clear}
use Rattle.rule_clear.proofs.clear.Clear.unseen.Goals as goal

pub returns : goal.returns
returns c key answer cells =
    let e = c.args.entity.now in
    messages_clear answer key (entity_value e) cells c.is_none.result c.is_none-2.result
    (none_held trip_update_value e.trip_update c.is_none.result c.is_none.ensures) (none_held vehicle_position_value e.vehicle c.is_none-2.result c.is_none-2.ensures)
