use Rattle.std.proofs.Common.{◌≡◌, ◌∷◌, [], ◌||◌, Ok, Err, ap, ◌∙◌}
use Rattle.rt_wire.specs.Placed.{placed_field}
use Rattle.feed_codec.specs.Paths.{holds, is_fixed32, is_payload}
use Rattle.feed_codec.proofs.Deep.{before_absent, holds_spread, inside_given, payload_absent, payload_given, walk_ends, walk_faults, walk_finds, walk_starts, walk_steps}
use Rattle.feed_codec.proofs.held_slots.HeldPosition.and_in_vehicle.Goals as goal

pub loop-field-init : goal.loop-field-init
loop-field-init c = record {
  given = walk_starts (holds [] (is_payload 2)) c.new-fields.result c.args.vehicle.now _ c.new-fields.ensures;
  latitude = walk_starts (holds (2 ∷ []) (is_fixed32 1)) c.new-fields.result c.args.vehicle.now _ c.new-fields.ensures;
  longitude = walk_starts (holds (2 ∷ []) (is_fixed32 2)) c.new-fields.result c.args.vehicle.now _ c.new-fields.ensures;
}

pub loop-field-preserved-else-found : goal.loop-field-preserved-else-found
loop-field-preserved-else-found c =
    let field = placed_field c.in-Ok.field in
    let next : c.loop-field.fields.left ≡ Ok field ∷ c.next.new.self.left = rw c.in-Ok.is at c.in-Some.ensures.next in
    record {
      given = walk_steps (holds [] (is_payload 2)) (holds_spread [] (is_payload 2)) _ _ field _ _ _ next (payload_given 2 field.field c.in-Some-payload_of.position.now c.loop-field.found.given _ c.in-Some-payload_of.ensures c.and_in-found.ensures.given) c.loop-field.invariant.given;
      latitude = walk_steps (holds (2 ∷ []) (is_fixed32 1)) (holds_spread (2 ∷ []) (is_fixed32 1)) _ _ field _ _ _ next (c.and_in-found.ensures.latitude ∙ ap (λ b. c.loop-field.found.latitude || b) (inside_given 2 [] (is_fixed32 1) field.field _ c.in-Some-payload_of.ensures)) c.loop-field.invariant.latitude;
      longitude = walk_steps (holds (2 ∷ []) (is_fixed32 2)) (holds_spread (2 ∷ []) (is_fixed32 2)) _ _ field _ _ _ next (c.and_in-found.ensures.longitude ∙ ap (λ b. c.loop-field.found.longitude || b) (inside_given 2 [] (is_fixed32 2) field.field _ c.in-Some-payload_of.ensures)) c.loop-field.invariant.longitude;
    }

pub loop-field-preserved : goal.loop-field-preserved
loop-field-preserved c =
    let field = placed_field c.in-Ok.field in
    let next : c.loop-field.fields.left ≡ Ok field ∷ c.next.new.self.left = rw c.in-Ok.is at c.in-Some.ensures.next in
    record {
      given = walk_steps (holds [] (is_payload 2)) (holds_spread [] (is_payload 2)) _ _ field _ _ _ next (payload_absent 2 field.field c.loop-field.found.given c.in_default-payload_of.ensures) c.loop-field.invariant.given;
      latitude = walk_steps (holds (2 ∷ []) (is_fixed32 1)) (holds_spread (2 ∷ []) (is_fixed32 1)) _ _ field _ _ _ next (before_absent 2 [] (is_fixed32 1) field.field c.loop-field.found.latitude c.in_default-payload_of.ensures) c.loop-field.invariant.latitude;
      longitude = walk_steps (holds (2 ∷ []) (is_fixed32 2)) (holds_spread (2 ∷ []) (is_fixed32 2)) _ _ field _ _ _ next (before_absent 2 [] (is_fixed32 2) field.field c.loop-field.found.longitude c.in_default-payload_of.ensures) c.loop-field.invariant.longitude;
    }

pub returns-then-found-2-clause-given : goal.returns-then-found-2-clause-given
returns-then-found-2-clause-given c =
    let field = placed_field c.in-Ok.field in
    let next : c.loop-field.fields.left ≡ Ok field ∷ c.next.new.self.left = rw c.in-Ok.is at c.in-Some.ensures.next in
    walk_finds (holds [] (is_payload 2)) c.next.new.self.left _ _ c.and_in-found.ensures.given
    (walk_steps (holds [] (is_payload 2)) (holds_spread [] (is_payload 2)) _ _ field _ _ _ next (payload_given 2 field.field c.in-Some-payload_of.position.now c.loop-field.found.given _ c.in-Some-payload_of.ensures c.and_in-found.ensures.given) c.loop-field.invariant.given)

pub returns-in-Err-clause-given : goal.returns-in-Err-clause-given
returns-in-Err-clause-given c =
    let next : c.loop-field.fields.left ≡ Err c.in-Err.field-0 ∷ c.next.new.self.left = rw c.in-Err.is at c.in-Some.ensures.next in
    walk_faults (holds [] (is_payload 2)) (holds_spread [] (is_payload 2)) _ _ _ _ _ next c.loop-field.invariant.given

pub returns-clause-given : goal.returns-clause-given
returns-clause-given c = walk_ends (holds [] (is_payload 2)) (holds_spread [] (is_payload 2)) _ _ _ c.in_default.ensures.next.0 c.loop-field.invariant.given

pub returns-then-found-2-clause-latitude : goal.returns-then-found-2-clause-latitude
returns-then-found-2-clause-latitude c =
    let field = placed_field c.in-Ok.field in
    let next : c.loop-field.fields.left ≡ Ok field ∷ c.next.new.self.left = rw c.in-Ok.is at c.in-Some.ensures.next in
    walk_finds (holds (2 ∷ []) (is_fixed32 1)) c.next.new.self.left _ _ c.if-found.true
    (walk_steps (holds (2 ∷ []) (is_fixed32 1)) (holds_spread (2 ∷ []) (is_fixed32 1)) _ _ field _ _ _ next (c.and_in-found.ensures.latitude ∙ ap (λ b. c.loop-field.found.latitude || b) (inside_given 2 [] (is_fixed32 1) field.field _ c.in-Some-payload_of.ensures)) c.loop-field.invariant.latitude)

pub returns-in-Err-clause-latitude : goal.returns-in-Err-clause-latitude
returns-in-Err-clause-latitude c =
    let next : c.loop-field.fields.left ≡ Err c.in-Err.field-0 ∷ c.next.new.self.left = rw c.in-Err.is at c.in-Some.ensures.next in
    walk_faults (holds (2 ∷ []) (is_fixed32 1)) (holds_spread (2 ∷ []) (is_fixed32 1)) _ _ _ _ _ next c.loop-field.invariant.latitude

pub returns-clause-latitude : goal.returns-clause-latitude
returns-clause-latitude c = walk_ends (holds (2 ∷ []) (is_fixed32 1)) (holds_spread (2 ∷ []) (is_fixed32 1)) _ _ _ c.in_default.ensures.next.0 c.loop-field.invariant.latitude

pub returns-then-found-2-clause-longitude : goal.returns-then-found-2-clause-longitude
returns-then-found-2-clause-longitude c =
    let field = placed_field c.in-Ok.field in
    let next : c.loop-field.fields.left ≡ Ok field ∷ c.next.new.self.left = rw c.in-Ok.is at c.in-Some.ensures.next in
    walk_finds (holds (2 ∷ []) (is_fixed32 2)) c.next.new.self.left _ _ c.if-found-2.true
    (walk_steps (holds (2 ∷ []) (is_fixed32 2)) (holds_spread (2 ∷ []) (is_fixed32 2)) _ _ field _ _ _ next (c.and_in-found.ensures.longitude ∙ ap (λ b. c.loop-field.found.longitude || b) (inside_given 2 [] (is_fixed32 2) field.field _ c.in-Some-payload_of.ensures)) c.loop-field.invariant.longitude)

pub returns-in-Err-clause-longitude : goal.returns-in-Err-clause-longitude
returns-in-Err-clause-longitude c =
    let next : c.loop-field.fields.left ≡ Err c.in-Err.field-0 ∷ c.next.new.self.left = rw c.in-Err.is at c.in-Some.ensures.next in
    walk_faults (holds (2 ∷ []) (is_fixed32 2)) (holds_spread (2 ∷ []) (is_fixed32 2)) _ _ _ _ _ next c.loop-field.invariant.longitude

pub returns-clause-longitude : goal.returns-clause-longitude
returns-clause-longitude c = walk_ends (holds (2 ∷ []) (is_fixed32 2)) (holds_spread (2 ∷ []) (is_fixed32 2)) _ _ _ c.in_default.ensures.next.0 c.loop-field.invariant.longitude
