use Rattle.std.proofs.Common.{[], ◌∙◌}
use Rattle.rt_wire.specs.Placed.{placed_field}
use Rattle.feed_codec.specs.Paths.{is_payload}
use Rattle.feed_codec.proofs.Deep.{inside_absent, payload_inside}
use Rattle.feed_codec.proofs.paths.is_around_payload.Goals as goal

pub returns-in-Some : goal.returns-in-Some
returns-in-Some c = c.has_payload.ensures ∙ payload_inside c.args.slot c.args.number (placed_field c.args.field.now).field _ c.in-Some.ensures

pub returns-in-None : goal.returns-in-None
returns-in-None c = inside_absent c.args.slot [] (is_payload c.args.number) (placed_field c.args.field.now).field c.in-None.ensures
