use Rattle.std.proofs.Common.{◌≡◌, ◌||◌, drop}
use Rattle.std.specs.BTreeSet.{contains}
use Rattle.std.specs.List.{list_any}
use Rattle.rule_table.specs.Order.{key_cmp, same_key}
use Rattle.rule_table.specs.declared.key.EntityKey.{EntityKey}
use Rattle.snapshot_steps.proofs.touching.put_copies.Given as goal

abbrev pub invariant-loop-key : goal.invariant-loop-key
invariant-loop-key l =
    (k : EntityKey) → (contains key_cmp l.keys k || list_any (same_key k) (drop l.key-index l.some)) ≡ (contains key_cmp l.fn.keys k || list_any (same_key k) l.fn.some)
