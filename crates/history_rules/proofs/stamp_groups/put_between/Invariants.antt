use Rattle.std.proofs.Common.{◌≡◌, ◌||◌}
use Rattle.std.specs.BTreeSet.{contains}
use Rattle.std.specs.List.{list_any}
use Rattle.rule_table.specs.Order.{key_cmp}
use Rattle.history_rules.specs.StampGroups.{between, in_groups}
use Rattle.history_rules.specs.Stamps.{stamps_of}
use Rattle.rule_table.specs.declared.key.EntityKey.{EntityKey}
use Rattle.history_rules.proofs.stamp_groups.put_between.Given as goal

abbrev pub invariant-loop-group : goal.invariant-loop-group
invariant-loop-group l = (k : EntityKey) → (contains key_cmp l.keys k || in_groups k l.group-iterator) ≡ (contains key_cmp l.fn.keys k || list_any (between l.fn.low l.fn.high k) (stamps_of l.groups.entries))
