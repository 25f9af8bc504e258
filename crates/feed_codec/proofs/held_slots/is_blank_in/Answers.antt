use Rattle.std.proofs.Common.{[], ◌∙◌}
use Rattle.rt_wire.specs.Placed.{placed_field}
use Rattle.feed_codec.specs.Paths.{is_payload_without}
use Rattle.feed_codec.proofs.Deep.{inside_absent, inside_given}
use Rattle.feed_codec.proofs.held_slots.is_blank_in.Goals as goal

pub returns-in-Some : goal.returns-in-Some
returns-in-Some c = c.has_blank_translation.ensures ∙ inside_given c.args.slot [] (is_payload_without 1 1) (placed_field c.args.field.now).field _ c.in-Some.ensures

pub returns-in-None : goal.returns-in-None
returns-in-None c = inside_absent c.args.slot [] (is_payload_without 1 1) (placed_field c.args.field.now).field c.in-None.ensures
