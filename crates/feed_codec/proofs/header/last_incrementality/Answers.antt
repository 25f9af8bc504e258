use Rattle.std.proofs.Common.{ap, ◌∙◌}
use Rattle.rt_wire.specs.Placed.{Remaining}
use Rattle.feed_values.specs.Meaning.{fields, whole_fields, last_of}
use Rattle.feed_values.specs.Accepted.{incrementalities}
use Rattle.feed_codec.proofs.Headers.{starts}
use Rattle.feed_codec.proofs.header.last_incrementality.Goals as goal

pub loop-field-init : goal.loop-field-init
unfolding fields
loop-field-init c = starts _ ∙ ap (λ (a : Remaining). last_of (incrementalities (whole_fields a.left))) c.new-fields.ensures
