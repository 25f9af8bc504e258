use Rattle.std.proofs.Common.{◌++◌}
use Rattle.rt_outside.proofs.Appends.{OnErr-second}
use Rattle.run_base.proofs.saying.put_three.Goals as goal

pub returns-clause-err : goal.returns-clause-err
returns-clause-err g c = OnErr-second c.put_all.result _ _ _ (c.args.first.now ++ c.args.second.now) c.args.third.now c.in_ok-put_two.ensures.ok c.put_all.ensures.err
