use Rattle.std.proofs.Common.{◌≡◌, ◌∷◌, [], false, Ok, Err, ◌∙◌}
use Rattle.rt_wire.specs.Placed.{placed_field}
use Rattle.feed_codec.specs.Paths.{holds, is_payload_without}
use Rattle.feed_codec.proofs.Deep.{held_here, holds_spread, found_here, found_later, walk_ends, walk_faults, walk_starts}
use Rattle.feed_codec.proofs.held_slots.has_blank_translation.Goals as goal

pub loop-field-init : goal.loop-field-init
loop-field-init c = walk_starts (holds [] (is_payload_without 1 1)) c.new-fields.result c.args.text.now false c.new-fields.ensures

pub returns-then-is_blank_translation : goal.returns-then-is_blank_translation
returns-then-is_blank_translation c =
    let field = placed_field c.in-Ok.field in
    let next : c.loop-field.fields.left ≡ Ok field ∷ c.next.new.self.left = rw c.in-Ok.is at c.in-Some.ensures.next in
    found_here (holds [] (is_payload_without 1 1)) (holds_spread [] (is_payload_without 1 1)) _ _ field c.is_blank_translation.result _ next (c.is_blank_translation.ensures ∙ held_here (is_payload_without 1 1) field.field) c.if-is_blank_translation.true c.loop-field.invariant

pub loop-field-preserved : goal.loop-field-preserved
loop-field-preserved c =
    let field = placed_field c.in-Ok.field in
    let next : c.loop-field.fields.left ≡ Ok field ∷ c.next.new.self.left = rw c.in-Ok.is at c.in-Some.ensures.next in
    found_later (holds [] (is_payload_without 1 1)) (holds_spread [] (is_payload_without 1 1)) _ _ field c.is_blank_translation.result _ next (c.is_blank_translation.ensures ∙ held_here (is_payload_without 1 1) field.field) c.if-is_blank_translation.false c.loop-field.invariant

pub returns-in-Err : goal.returns-in-Err
returns-in-Err c =
    let next : c.loop-field.fields.left ≡ Err c.in-Err.field-0 ∷ c.next.new.self.left = rw c.in-Err.is at c.in-Some.ensures.next in
    walk_faults (holds [] (is_payload_without 1 1)) (holds_spread [] (is_payload_without 1 1)) _ _ _ false _ next c.loop-field.invariant

pub returns : goal.returns
returns c = walk_ends (holds [] (is_payload_without 1 1)) (holds_spread [] (is_payload_without 1 1)) _ false _ c.in_default.ensures.next.0 c.loop-field.invariant
