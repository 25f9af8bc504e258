use Rattle.std.proofs.Common.{◌≡◌, ◌∷◌, [], Ok, Err, option_copied, ap, ◌∙◌}
use Rattle.rt_wire.specs.Placed.{placed_field}
use Rattle.feed_codec.proofs.Lasts.{copied_or, last_here, only_so_far, walk_ends, walk_faults, walk_starts, walk_steps}
use Rattle.feed_codec.proofs.payloads.last_payload.Goals as goal

pub loop-field-init : goal.loop-field-init
loop-field-init c = walk_starts [] c.args.number c.new-fields.result c.args.bytes.now _ c.new-fields.ensures ∙ only_so_far _

pub loop-field-preserved : goal.loop-field-preserved
loop-field-preserved c =
    let field = placed_field c.in-Ok.field in
    let next : c.loop-field.fields.left ≡ Ok field ∷ c.next.new.self.left = rw c.in-Ok.is at c.in-Some.ensures.next in
    walk_steps [] c.args.number _ _ field _ (option_copied c.loop-field.last) _ _ next (c.payload_of.ensures ∙ last_here c.args.number field.field)
    (ap option_copied c.or-last.ensures ∙ copied_or c.payload_of.result c.loop-field.last) c.loop-field.invariant

pub returns-in-Err : goal.returns-in-Err
returns-in-Err c =
    let next : c.loop-field.fields.left ≡ Err c.in-Err.field-0 ∷ c.next.new.self.left = rw c.in-Err.is at c.in-Some.ensures.next in
    walk_faults [] c.args.number _ _ _ (option_copied c.loop-field.last) _ next c.loop-field.invariant

pub returns : goal.returns
returns c = walk_ends [] c.args.number _ (option_copied c.loop-field.last) _ c.in_default.ensures.next.0 c.loop-field.invariant
