use Rattle.std.proofs.Common.{ap}
use Rattle.rt_wire.specs.Placed.{Remaining}
use Rattle.feed_values.specs.Meaning.{fields, whole_fields}
use Rattle.feed_codec.specs.Paths.{has_payload}
use Rattle.feed_codec.proofs.paths.has_payload.Goals as goal

pub loop-field-init : goal.loop-field-init
unfolding fields
loop-field-init c = ap (λ (a : Remaining). has_payload c.args.number (whole_fields a.left)) c.new-fields.ensures
