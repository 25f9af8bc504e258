use Rattle.std.proofs.Common.{◌≡◌, ◌∷◌, Ok, ap, ◌∙◌}
use Rattle.rt_wire.specs.Placed.{Remaining, placed_field}
use Rattle.feed_values.specs.Meaning.{fields, whole_fields, last_of}
use Rattle.feed_values.specs.Accepted.{incrementalities, header_fields}
use Rattle.feed_codec.proofs.Headers.{starts, goes_on, header_pieces}
use Rattle.feed_codec.proofs.header.snapshot_incrementality.Goals as goal

pub loop-field-init : goal.loop-field-init
unfolding fields
loop-field-init c = starts _ ∙ ap (λ (a : Remaining). last_of (incrementalities (header_fields (whole_fields a.left)))) c.new-fields.ensures

pub loop-field-preserved : goal.loop-field-preserved
loop-field-preserved c =
    let f = placed_field c.in-Ok.field in
    let h : c.loop-field.fields.left ≡ Ok f ∷ c.next.new.self.left = rw c.in-Ok.is at c.in-Some.ensures.next in
    goes_on (λ l. incrementalities (header_fields l)) header_pieces f.field (whole_fields c.next.new.self.left) _ _ _ c.take_from_header.ensures
    (rw h at c.loop-field.invariant)
