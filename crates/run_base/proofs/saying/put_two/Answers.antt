use Rattle.rt_outside.proofs.Appends.{OnErr-second}
use Rattle.run_base.proofs.saying.put_two.Goals as goal

pub returns-clause-err : goal.returns-clause-err
returns-clause-err g c = OnErr-second c.put_all-2.result _ _ _ c.args.first.now c.args.second.now c.in_ok-put_all.ensures.ok c.put_all-2.ensures.err
