use Rattle.std.proofs.Common.{◌||◌, ◌∙◌, ap}
use Rattle.std.specs.BTreeSet.{contains}
use Rattle.rule_table.specs.Order.{key_cmp}
use Rattle.history_rules.specs.StampGroups.{in_groups}
use Rattle.history_rules.proofs.StampGroups.{groups-between}
use Rattle.history_rules.proofs.stamp_groups.put_between.Goals as goal

pub loop-group-init : goal.loop-group-init
loop-group-init c = λ k.
    ap (λ b. contains key_cmp c.args.keys.now k || b)
    (ap (in_groups k) (c.into_iter-group-iterator.ensures.into_iter_gives ∙ c.range-group-items.ensures.between tt) ∙ groups-between c.args.low c.args.high k c.args.groups.now.entries)
