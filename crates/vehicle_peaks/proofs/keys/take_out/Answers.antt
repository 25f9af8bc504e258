use Rattle.rule_table.specs.Order.{key_cmp}
use Rattle.std.specs.BTreeSet.{contains}
use Rattle.vehicle_peaks.proofs.KeySets.{key_out}
use Rattle.vehicle_peaks.proofs.keys.take_out.Goals as goal

pub loop-key-preserved : goal.loop-key-preserved
loop-key-preserved c = λ k.
    key_out c.args.gone.now c.loop-key.key-index c.key-item.result k _ (contains key_cmp c.loop-key.keys k) _ c.loop-key-test.true c.key-item.is (c.remove.ensures.updates.0 k) (c.loop-key.invariant k)
