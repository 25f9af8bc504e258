use Rattle.std.proofs.Common.{◌≡◌, [], ◌∷◌, Ok, sym, ap, ◌∙◌}
use Rattle.rt_wire.specs.Placed.{Remaining, placed_field}
use Rattle.feed_values.specs.Meaning.{fields, whole_fields}
use Rattle.feed_codec.specs.Merging.{with_fields}
use Rattle.feed_codec.specs.Refusal.{first_in, in_payload}
use Rattle.feed_codec.proofs.Merges.{with_fields-more, with_fields-none, nothing_inside}
use Rattle.feed_codec.proofs.message.merge.Goals as goal

pub loop-field-init : goal.loop-field-init
unfolding fields
loop-field-init g c =
    let e : whole_fields c.new-fields.result.left ≡ fields c.args.bytes.now = ap (λ (a : Remaining). whole_fields a.left) c.new-fields.ensures in
    record {
      rest = ap (λ l. with_fields g.M.Message.schema l (g.M.Message.value c.args.message.now)) e;
      fine = ap (λ (a : Remaining). first_in (in_payload g.M.Checked.wrong) a.left) c.new-fields.ensures;
    }

pub loop-field-preserved : goal.loop-field-preserved
loop-field-preserved g c =
    let p = placed_field c.in-Ok.field in
    let h : c.loop-field.fields.left ≡ Ok p ∷ c.next_field.new.fields.left = rw c.in-Ok.is at c.in-Some.ensures.next in
    let e : whole_fields c.loop-field.fields.left ≡ p.field ∷ whole_fields c.next_field.new.fields.left = ap whole_fields h in
    let fine = nothing_inside g.M.Checked.wrong p c.in_ok-merge_field-in-Ok.ensures.fine in
    record {
      rest = rw (c.in_ok-merge_field-in-Ok.ensures.value, ← with_fields-more g.M.Message.schema p.field (whole_fields c.next_field.new.fields.left) (g.M.Message.value c.loop-field.message)) (rw e at c.loop-field.invariant.rest);
      fine = rw (h, fine) at c.loop-field.invariant.fine;
    }

pub returns-clause-value : goal.returns-clause-value
returns-clause-value g c =
    let e : whole_fields c.loop-field.fields.left ≡ [] = ap whole_fields c.in_default.ensures.next.0 in
    sym (with_fields-none g.M.Message.schema (g.M.Message.value c.loop-field.message)) ∙ (rw e at c.loop-field.invariant.rest)

pub returns-clause-fine : goal.returns-clause-fine
returns-clause-fine g c = sym c.loop-field.invariant.fine ∙ ap (first_in (in_payload g.M.Checked.wrong)) c.in_default.ensures.next.0
