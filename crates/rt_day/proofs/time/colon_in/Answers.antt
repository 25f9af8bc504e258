use Rattle.std.proofs.Common.{sym, ap, arith}
use Rattle.std.proofs.lemmas.List.Sums.{position_or_len_is}
use Rattle.rt_day.specs.Time.{is_colon}
use Rattle.rt_day.proofs.time.colon_in.Goals as goal

pub returns-else-text-place-ne58-clause-place : goal.returns-else-text-place-ne58-clause-place
returns-else-text-place-ne58-clause-place c = sym (position_or_len_is is_colon c.args.text.now c.loop-place.place 0 c.loop-place.invariant.within c.loop-place.invariant.fails (λ h. ap is_colon c.if-text-place-ne58.false))

pub returns-after-loop-place-clause-place : goal.returns-after-loop-place-clause-place
returns-after-loop-place-clause-place c = sym (position_or_len_is is_colon c.args.text.now c.loop-place.place 0 c.loop-place.invariant.within c.loop-place.invariant.fails (λ h. absurd (omega (arith, h, c.loop-place-test.false))))
