use Rattle.std.proofs.Common.{◌≡◌, ◌∷◌, [], false, Ok, Err}
use Rattle.rt_wire.specs.Placed.{placed_field}
use Rattle.feed_codec.specs.Paths.{holds, is_payload}
use Rattle.feed_codec.proofs.Deep.{holds_spread, found_here, found_later, walk_ends, walk_faults, walk_starts}
use Rattle.feed_codec.proofs.paths.has_inner_payload.Goals as goal

pub loop-field-init : goal.loop-field-init
loop-field-init c = walk_starts (holds (c.args.slot ∷ []) (is_payload c.args.number)) c.new-fields.result c.args.bytes.now false c.new-fields.ensures

pub returns-then-is_around_payload : goal.returns-then-is_around_payload
returns-then-is_around_payload c =
    let field = placed_field c.in-Ok.field in
    let next : c.loop-field.fields.left ≡ Ok field ∷ c.next.new.self.left = rw c.in-Ok.is at c.in-Some.ensures.next in
    found_here (holds (c.args.slot ∷ []) (is_payload c.args.number)) (holds_spread (c.args.slot ∷ []) (is_payload c.args.number)) _ _ field c.is_around_payload.result _ next c.is_around_payload.ensures c.if-is_around_payload.true c.loop-field.invariant

pub loop-field-preserved : goal.loop-field-preserved
loop-field-preserved c =
    let field = placed_field c.in-Ok.field in
    let next : c.loop-field.fields.left ≡ Ok field ∷ c.next.new.self.left = rw c.in-Ok.is at c.in-Some.ensures.next in
    found_later (holds (c.args.slot ∷ []) (is_payload c.args.number)) (holds_spread (c.args.slot ∷ []) (is_payload c.args.number)) _ _ field c.is_around_payload.result _ next c.is_around_payload.ensures c.if-is_around_payload.false c.loop-field.invariant

pub returns-in-Err : goal.returns-in-Err
returns-in-Err c =
    let next : c.loop-field.fields.left ≡ Err c.in-Err.field-0 ∷ c.next.new.self.left = rw c.in-Err.is at c.in-Some.ensures.next in
    walk_faults (holds (c.args.slot ∷ []) (is_payload c.args.number)) (holds_spread (c.args.slot ∷ []) (is_payload c.args.number)) _ _ _ false _ next c.loop-field.invariant

pub returns : goal.returns
returns c = walk_ends (holds (c.args.slot ∷ []) (is_payload c.args.number)) (holds_spread (c.args.slot ∷ []) (is_payload c.args.number)) _ false _ c.in_default.ensures.next.0 c.loop-field.invariant
