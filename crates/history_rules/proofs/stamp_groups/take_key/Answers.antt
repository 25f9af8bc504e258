use Rattle.std.proofs.Common.{false, cond, ◌∙◌, ap, rules}
use Rattle.std.specs.BTreeMap.{is_at}
use Rattle.rule_table.specs.Order.{key_cmp}
use Rattle.history_rules.specs.StampGroups.{key_in}
use Rattle.history_rules.proofs.StampGroups.{stamp_taken}
use Rattle.history_rules.proofs.stamp_groups.take_key.Goals as goal

pub returns-in-Some-clause-keys : goal.returns-in-Some-clause-keys
returns-in-Some-clause-keys c =
    stamp_taken c.args.moment c.args.key.now c.args.groups.now (c.get_mut.follows.lender c.remove.new.self) c.remove.new.self ((c.get_mut.follows.holds c.remove.new.self).3 (search rules)).0
    (λ k. c.remove.ensures.updates.0 k ∙ ap (λ g. cond (is_at (key_cmp c.args.key.now) k) false (key_in k g)) c.in-Some.ensures.value)
