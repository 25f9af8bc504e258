use Rattle.std.proofs.Common.{arith}
use Rattle.judging.specs.Ruled.{entity_count}
use Rattle.quiet_vehicles.proofs.marking.tick_all.Goals as goal

pub returns : goal.returns
returns g c = omega (arith, entity_count, c.loop-test.false, c.loop.invariant.ticked, c.loop.invariant.within)
