use Rattle.rt_day.proofs.DigitLemmas.{digits_of-below}
use Rattle.rt_day.proofs.digits.number_of.Goals as goal

pub returns-clause-below : goal.returns-clause-below
returns-clause-below c = rw c.digits_of.ensures (digits_of-below c.args.text.now c.args.most c.if-most-text.false)
