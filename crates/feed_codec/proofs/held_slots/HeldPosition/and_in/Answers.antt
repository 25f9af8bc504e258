use Rattle.std.proofs.Common.{◌≡◌, ◌∷◌, [], Ok, Err, refl}
use Rattle.rt_wire.specs.Placed.{placed_field}
use Rattle.feed_codec.specs.Paths.{holds, is_fixed32}
use Rattle.feed_codec.proofs.Deep.{holds_spread, walk_ends, walk_faults, walk_finds, walk_starts, walk_steps}
use Rattle.feed_codec.proofs.held_slots.HeldPosition.and_in.Goals as goal

pub loop-field-init : goal.loop-field-init
loop-field-init c = record {
  given = refl;
  latitude = walk_starts (holds [] (is_fixed32 1)) c.new-fields.result c.args.position.now _ c.new-fields.ensures;
  longitude = walk_starts (holds [] (is_fixed32 2)) c.new-fields.result c.args.position.now _ c.new-fields.ensures;
}

pub loop-field-preserved : goal.loop-field-preserved
loop-field-preserved c =
    let field = placed_field c.in-Ok.field in
    let next : c.loop-field.fields.left ≡ Ok field ∷ c.next_fixed32.new.self.left = rw c.in-Ok.is at c.in-Some.ensures.next in
    record {
      given = c.loop-field.invariant.given;
      latitude = walk_steps (holds [] (is_fixed32 1)) (holds_spread [] (is_fixed32 1)) _ _ field _ _ _ next c.coordinate_after.ensures c.loop-field.invariant.latitude;
      longitude = walk_steps (holds [] (is_fixed32 2)) (holds_spread [] (is_fixed32 2)) _ _ field _ _ _ next c.coordinate_after-in-Ok.ensures c.loop-field.invariant.longitude;
    }

pub returns-in-Err-clause-latitude : goal.returns-in-Err-clause-latitude
returns-in-Err-clause-latitude c =
    let next : c.loop-field.fields.left ≡ Err c.in-Err.field-0 ∷ c.next_fixed32.new.self.left = rw c.in-Err.is at c.in-Some.ensures.next in
    walk_faults (holds [] (is_fixed32 1)) (holds_spread [] (is_fixed32 1)) _ _ _ _ _ next c.loop-field.invariant.latitude

pub returns-clause-latitude : goal.returns-clause-latitude
returns-clause-latitude c = walk_ends (holds [] (is_fixed32 1)) (holds_spread [] (is_fixed32 1)) _ _ _ c.in_default.ensures.next.0 c.loop-field.invariant.latitude

pub returns-in-Err-clause-longitude : goal.returns-in-Err-clause-longitude
returns-in-Err-clause-longitude c =
    let next : c.loop-field.fields.left ≡ Err c.in-Err.field-0 ∷ c.next_fixed32.new.self.left = rw c.in-Err.is at c.in-Some.ensures.next in
    walk_faults (holds [] (is_fixed32 2)) (holds_spread [] (is_fixed32 2)) _ _ _ _ _ next c.loop-field.invariant.longitude

pub returns-clause-longitude : goal.returns-clause-longitude
returns-clause-longitude c = walk_ends (holds [] (is_fixed32 2)) (holds_spread [] (is_fixed32 2)) _ _ _ c.in_default.ensures.next.0 c.loop-field.invariant.longitude

pub returns-then-found-2-clause-latitude : goal.returns-then-found-2-clause-latitude
returns-then-found-2-clause-latitude c =
    let field = placed_field c.in-Ok.field in
    let next : c.loop-field.fields.left ≡ Ok field ∷ c.next_fixed32.new.self.left = rw c.in-Ok.is at c.in-Some.ensures.next in
    walk_finds (holds [] (is_fixed32 1)) c.next_fixed32.new.self.left _ _ c.if-found.true
    (walk_steps (holds [] (is_fixed32 1)) (holds_spread [] (is_fixed32 1)) _ _ field _ _ _ next c.coordinate_after.ensures c.loop-field.invariant.latitude)

pub returns-then-found-2-clause-longitude : goal.returns-then-found-2-clause-longitude
returns-then-found-2-clause-longitude c =
    let field = placed_field c.in-Ok.field in
    let next : c.loop-field.fields.left ≡ Ok field ∷ c.next_fixed32.new.self.left = rw c.in-Ok.is at c.in-Some.ensures.next in
    walk_finds (holds [] (is_fixed32 2)) c.next_fixed32.new.self.left _ _ c.if-found-2.true
    (walk_steps (holds [] (is_fixed32 2)) (holds_spread [] (is_fixed32 2)) _ _ field _ _ _ next c.coordinate_after-in-Ok.ensures c.loop-field.invariant.longitude)
