use Rattle.std.proofs.Common.{◌∷◌, [], ◌||◌, ap, ◌∙◌}
use Rattle.rt_wire.specs.Placed.{placed_field}
use Rattle.feed_codec.specs.Paths.{is_fixed32, is_payload}
use Rattle.feed_codec.proofs.Deep.{before_absent, inside_given}
use Rattle.feed_codec.proofs.held_slots.HeldPosition.and_field.Goals as goal

pub returns-in-Some-clause-given : goal.returns-in-Some-clause-given
returns-in-Some-clause-given c = c.and_in_vehicle.ensures.given ∙ ap (λ b. c.args.self.given || b) (inside_given 4 [] (is_payload 2) (placed_field c.args.field.now).field _ c.in-Some.ensures)

pub returns-in-None-clause-given : goal.returns-in-None-clause-given
returns-in-None-clause-given c = before_absent 4 [] (is_payload 2) (placed_field c.args.field.now).field c.args.self.given c.in-None.ensures

pub returns-in-Some-clause-latitude : goal.returns-in-Some-clause-latitude
returns-in-Some-clause-latitude c = c.and_in_vehicle.ensures.latitude ∙ ap (λ b. c.args.self.latitude || b) (inside_given 4 (2 ∷ []) (is_fixed32 1) (placed_field c.args.field.now).field _ c.in-Some.ensures)

pub returns-in-None-clause-latitude : goal.returns-in-None-clause-latitude
returns-in-None-clause-latitude c = before_absent 4 (2 ∷ []) (is_fixed32 1) (placed_field c.args.field.now).field c.args.self.latitude c.in-None.ensures

pub returns-in-Some-clause-longitude : goal.returns-in-Some-clause-longitude
returns-in-Some-clause-longitude c = c.and_in_vehicle.ensures.longitude ∙ ap (λ b. c.args.self.longitude || b) (inside_given 4 (2 ∷ []) (is_fixed32 2) (placed_field c.args.field.now).field _ c.in-Some.ensures)

pub returns-in-None-clause-longitude : goal.returns-in-None-clause-longitude
returns-in-None-clause-longitude c = before_absent 4 (2 ∷ []) (is_fixed32 2) (placed_field c.args.field.now).field c.args.self.longitude c.in-None.ensures
