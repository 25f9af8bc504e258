use Rattle.std.proofs.Common.{◌≡◌, ◌∷◌, false, Ok, Err}
use Rattle.rt_wire.specs.Placed.{placed_field}
use Rattle.feed_codec.specs.Missing.{is_blank}
use Rattle.feed_codec.proofs.Deep.{blank_spread, found_here, found_later, walk_ends, walk_faults, walk_starts}
use Rattle.feed_codec.proofs.held_slots.has_blank_text.Goals as goal

pub loop-field-init : goal.loop-field-init
loop-field-init c = walk_starts is_blank c.new-fields.result c.args.alert.now false c.new-fields.ensures

pub returns-then-is_blank_text : goal.returns-then-is_blank_text
returns-then-is_blank_text c =
    let field = placed_field c.in-Ok.field in
    let next : c.loop-field.fields.left ≡ Ok field ∷ c.next.new.self.left = rw c.in-Ok.is at c.in-Some.ensures.next in
    found_here is_blank blank_spread _ _ field c.is_blank_text.result _ next c.is_blank_text.ensures c.if-is_blank_text.true c.loop-field.invariant

pub loop-field-preserved : goal.loop-field-preserved
loop-field-preserved c =
    let field = placed_field c.in-Ok.field in
    let next : c.loop-field.fields.left ≡ Ok field ∷ c.next.new.self.left = rw c.in-Ok.is at c.in-Some.ensures.next in
    found_later is_blank blank_spread _ _ field c.is_blank_text.result _ next c.is_blank_text.ensures c.if-is_blank_text.false c.loop-field.invariant

pub returns-in-Err : goal.returns-in-Err
returns-in-Err c =
    let next : c.loop-field.fields.left ≡ Err c.in-Err.field-0 ∷ c.next.new.self.left = rw c.in-Err.is at c.in-Some.ensures.next in
    walk_faults is_blank blank_spread _ _ _ false _ next c.loop-field.invariant

pub returns : goal.returns
returns c = walk_ends is_blank blank_spread _ false _ c.in_default.ensures.next.0 c.loop-field.invariant
