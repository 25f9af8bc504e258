use Rattle.std.proofs.Common.{◌≡◌, Some, arith, refl}
use Rattle.rt_wire.specs.Placed.{placed_field}
use Rattle.feed_codec.specs.Refusal.{in_payload, part_fault}
use Rattle.feed_stream.proofs.Walked.{stands_next, has_bytes, walked_more, whole_part, field_laid, group_passed, inside_refused, own_refused, ends_early, nothing_left}
use Rattle.feed_stream.proofs.walking.go_through.Goals as goal

pub returns-in-Err : goal.returns-in-Err
returns-in-Err c =
    let bytes = c.args.bytes.now in
    let next = c.loop-next.next in
    let field = placed_field c.in-Plain.field in
    let so_far = rw c.in-Plain.is at c.in_ok-field.ensures in
    let says : in_payload part_fault field ≡ Some c.in-Err.refusal = rw c.in-Err.is at c.in_ok-refusal-in-Plain.ensures in
    let n = stands_next bytes next field (λ i. omega (arith, c.type_inv.bytes i)) c.loop-next.invariant.walked.within so_far.0 in
    inside_refused bytes next field c.in-Err.refusal (λ i. omega (arith, c.type_inv.bytes i)) c.loop-next.invariant.walked n says

pub with-requires : goal.with-requires
with-requires c =
    let so_far = rw c.in-Plain.is at c.in_ok-field.ensures in
    record { header = c.loop-next.invariant.laid.header_within; field = so_far.1 }

pub loop-next-preserved-in-Plain : goal.loop-next-preserved-in-Plain
loop-next-preserved-in-Plain c =
    let bytes = c.args.bytes.now in
    let next = c.loop-next.next in
    let field = placed_field c.in-Plain.field in
    let so_far = rw c.in-Plain.is at c.in_ok-field.ensures in
    let w = c.loop-next.invariant.walked in
    let n = stands_next bytes next field (λ i. omega (arith, c.type_inv.bytes i)) w.within so_far.0 in
    record {
      walked = walked_more bytes next field w n (whole_part field (has_bytes bytes next field (λ i. omega (arith, c.type_inv.bytes i)) n) (rw c.in_default.is at c.in_ok-refusal-in-Plain.ensures));
      laid = field_laid bytes next c.in-Plain.field c.loop-next.layout c.in_ok-layout-in-Plain.layout w n so_far.1 c.loop-next.invariant.laid c.in_ok-layout-in-Plain.ensures;
      front = tt;
    }

pub loop-next-smaller : goal.loop-next-smaller
loop-next-smaller c =
    let so_far = rw c.in-Group.is at c.in_ok-field.ensures in
    let test = c.loop-next-test.true in
    omega (arith, so_far.after, test)

pub loop-next-preserved : goal.loop-next-preserved
loop-next-preserved c =
    let so_far = rw c.in-Group.is at c.in_ok-field.ensures in
    let g = group_passed c.args.bytes.now c.loop-next.next c.in-Group.stop c.loop-next.layout (λ i. omega (arith, c.type_inv.bytes i)) c.loop-next.invariant.walked c.loop-next.invariant.laid so_far in
    record { walked = g.walked; laid = g.laid; front = tt }

pub returns-then-may_be_mended : goal.returns-then-may_be_mended
returns-then-may_be_mended c =
    let so_far = rw c.in-Fault.is at c.in_ok-field.ensures in
    record {
      walked_to = c.loop-next.invariant.walked;
      layout = c.loop-next.invariant.laid;
      rest = ends_early c.args.bytes.now c.loop-next.next c.in-Fault.fault (λ i. omega (arith, c.type_inv.bytes i)) (omega (arith, c.loop-next-test.true)) so_far.0 (c.if-may_be_mended.ensures.yes refl);
      front = so_far.1;
    }

pub returns-in-Fault : goal.returns-in-Fault
returns-in-Fault c =
    let so_far = rw c.in-Fault.is at c.in_ok-field.ensures in
    rw c.refusal_of.ensures (own_refused c.args.bytes.now c.loop-next.next c.in-Fault.fault (λ i. omega (arith, c.type_inv.bytes i)) c.loop-next.invariant.walked (omega (arith, c.loop-next-test.true)) so_far.0 (c.if-may_be_mended.ensures.no (λ f. absurd (cc f))))

pub returns : goal.returns
returns c = record {
  walked_to = c.loop-next.invariant.walked;
  layout = c.loop-next.invariant.laid;
  rest = nothing_left c.args.bytes.now c.loop-next.next (omega (arith, c.loop-next-test.false));
  front = tt;
}
