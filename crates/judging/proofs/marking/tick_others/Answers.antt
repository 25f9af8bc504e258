use Rattle.std.proofs.Common.{arith, refl}
use Rattle.judging.specs.Ruled.{entity_count}
use Rattle.judging.proofs.marking.tick_others.Goals as goal

pub loop-init : goal.loop-init
loop-init g c = record { ticked = refl; last = refl; within = omega (arith, entity_count, c.requires) }

pub returns : goal.returns
returns g c = omega (arith, entity_count, c.loop-test.false, c.loop.invariant.ticked, c.loop.invariant.last, c.loop.invariant.within)
