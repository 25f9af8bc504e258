use Rattle.std.proofs.Common.{arith, sym}
use Rattle.rt_wire.proofs.ShortFields.{ShortTag, short_number, short_payload}
use Rattle.rt_wire.proofs.field.read_short_field.Goals as goal

pub returns-in-Ok-clause-value : goal.returns-in-Ok-clause-value
returns-in-Ok-clause-value c =
    let short : ShortTag c.args.bytes.now c.args.at = record { here = omega (arith, c.if-bytes-at-lt2.false); some = c.if-tag-lt8.false; low = c.if-tag-ge128.false } in
    let number = c.in-Ok.ensures.value in
    rw c.from.ensures (short_number c.args.bytes.now c.args.at c.in-Ok.number c.in-Ok.end short c.in-0.is (sym number))

pub returns-else-size-bytes-clause-value : goal.returns-else-size-bytes-clause-value
returns-else-size-bytes-clause-value c =
    let short : ShortTag c.args.bytes.now c.args.at = record { here = omega (arith, c.if-bytes-at-lt2.false); some = c.if-tag-lt8.false; low = c.if-tag-ge128.false } in
    let low = c.if-size-ge128.false in
    let fits = c.if-size-bytes.false in
    rw (c.from-in-2.ensures, c.from-size.ensures) (short_payload c.args.bytes.now c.args.at short c.in-2.is (rw c.from-size.ensures at low) (rw c.from-size.ensures at fits))
