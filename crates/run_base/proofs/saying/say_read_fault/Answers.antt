use Rattle.std.proofs.Common.{inl, inr, refl}
use Rattle.run_base.proofs.saying.say_read_fault.Goals as goal

pub returns-in-Ok : goal.returns-in-Ok
returns-in-Ok g c = rw (← c.as_bytes.ensures.value) (inl (refl, c.in-Ok.ensures.ok))

pub returns-in-Err : goal.returns-in-Err
returns-in-Err g c = rw (← c.as_bytes.ensures.value) (inr (refl, c.in-Err.ensures.cause.failed, c.in-Err.ensures.err))
