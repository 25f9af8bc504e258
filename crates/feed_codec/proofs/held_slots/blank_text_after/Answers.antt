use Rattle.std.proofs.Common.{◌∙◌}
use Rattle.rt_wire.specs.Placed.{placed_field}
use Rattle.feed_codec.proofs.Deep.{or_before, text_absent, text_given}
use Rattle.feed_codec.proofs.held_slots.blank_text_after.Goals as goal

pub returns-else-before : goal.returns-else-before
returns-else-before c = c.has_blank_text.ensures ∙ text_given (placed_field c.args.field.now).field _ c.in-Some.ensures ∙ or_before c.args.before _ c.if-before.false

pub returns-in-None : goal.returns-in-None
returns-in-None c = text_absent (placed_field c.args.field.now).field c.args.before c.in-None.ensures
