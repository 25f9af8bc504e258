use Rattle.std.proofs.Common.{◌≡◌, ◌||◌}
use Rattle.std.specs.BTreeSet.{contains}
use Rattle.std.specs.BTreeMap.{is_at}
use Rattle.std.specs.List.{list_any}
use Rattle.rule_table.specs.Order.{key_cmp}
use Rattle.rule_table.specs.declared.key.EntityKey.{EntityKey}
use Rattle.history_rules.proofs.keys.put_copies.Given as goal

abbrev pub invariant-loop-key : goal.invariant-loop-key
invariant-loop-key l = (k : EntityKey) → (contains key_cmp l.keys k || list_any (is_at (key_cmp k)) l.key-iterator) ≡ (contains key_cmp l.fn.keys k || list_any (is_at (key_cmp k)) l.more.keys)
