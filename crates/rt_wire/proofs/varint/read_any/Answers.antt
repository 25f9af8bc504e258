use Rattle.std.proofs.Common.{refl}
use Rattle.rt_wire.proofs.VarintLaws.{one_byte, two_bytes, three_bytes, four_bytes, five_bytes}
use Rattle.rt_wire.proofs.varint.read_any.Goals as goal

pub returns-in-len1-up-clause-value : goal.returns-in-len1-up-clause-value
returns-in-len1-up-clause-value c = rw (c.low.ensures.value) (rw (one_byte c.args.rest.now c.in-len1-up.len_at_least c.if-last-lt128.true) refl)

pub returns-in-len2-up-clause-value : goal.returns-in-len2-up-clause-value
returns-in-len2-up-clause-value c = rw (c.low-in-len2-up.ensures.value, c.low-in-len2-up-2.ensures.value) (rw (two_bytes c.args.rest.now c.in-len2-up.len_at_least c.if-last-lt128.false c.if-last-lt128-2.true) refl)

pub returns-in-len3-up-clause-value : goal.returns-in-len3-up-clause-value
returns-in-len3-up-clause-value c = rw (c.low-in-len3-up.ensures.value, c.low-in-len3-up-2.ensures.value, c.low-in-len3-up-3.ensures.value) (rw (three_bytes c.args.rest.now c.in-len3-up.len_at_least c.if-last-lt128.false c.if-last-lt128-2.false c.if-last-lt128-3.true) refl)

pub returns-in-len4-up-clause-value : goal.returns-in-len4-up-clause-value
returns-in-len4-up-clause-value c = rw (c.low-in-len4-up.ensures.value, c.low-in-len4-up-2.ensures.value, c.low-in-len4-up-3.ensures.value, c.low-in-len4-up-4.ensures.value) (rw (four_bytes c.args.rest.now c.in-len4-up.len_at_least c.if-last-lt128.false c.if-last-lt128-2.false c.if-last-lt128-3.false c.if-last-lt128-4.true) refl)

pub returns-in-len5-up-clause-value : goal.returns-in-len5-up-clause-value
returns-in-len5-up-clause-value c = rw (c.low-in-len5-up.ensures.value, c.low-in-len5-up-2.ensures.value, c.low-in-len5-up-3.ensures.value, c.low-in-len5-up-4.ensures.value, c.low-in-len5-up-5.ensures.value) (rw (five_bytes c.args.rest.now c.in-len5-up.len_at_least c.if-last-lt128.false c.if-last-lt128-2.false c.if-last-lt128-3.false c.if-last-lt128-4.false c.if-last-lt128-5.true) refl)
