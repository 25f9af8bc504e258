use Rattle.rt_wire.specs.Placed.{placed_field}
use Rattle.feed_codec.specs.Paths.{is_fixed32}
use Rattle.feed_codec.proofs.Deep.{or_here}
use Rattle.feed_codec.proofs.held_slots.coordinate_after.Goals as goal

pub returns-else-before : goal.returns-else-before
returns-else-before c = or_here (is_fixed32 c.args.number) (placed_field c.args.field.now).field c.args.before _ c.if-before.false c.is_fixed32.ensures
