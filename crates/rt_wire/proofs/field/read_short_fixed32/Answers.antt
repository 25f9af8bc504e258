use Rattle.std.proofs.Common.{arith, sym}
use Rattle.rt_wire.proofs.ShortFields.{ShortTag, short_fixed32}
use Rattle.rt_wire.proofs.field.read_short_fixed32.Goals as goal

pub returns-in-Ok-clause-value : goal.returns-in-Ok-clause-value
returns-in-Ok-clause-value c =
    let short : ShortTag c.args.bytes.now c.args.at = record { here = omega (arith, c.if-bytes-at-lt2.false); some = c.if-tag-lt8.false; low = c.if-tag-ge128.false } in
    let number = c.in-Ok.ensures.value in
    rw c.from.ensures (short_fixed32 c.args.bytes.now c.args.at c.in-Ok.number c.in-Ok.end short c.if-tag-ne5.false (sym number))
