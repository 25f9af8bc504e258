use Rattle.std.proofs.Common.{◌≡◌, ◌||◌, length}
use Rattle.std.specs.BTreeSet.{contains}
use Rattle.std.specs.List.{list_any}
use Rattle.std.specs.Vec.Iter.{into_iter_items, into_iter_len}
use Rattle.rule_table.specs.Order.{key_cmp, same_key}
use Rattle.rule_table.specs.declared.key.EntityKey.{EntityKey}
use Rattle.snapshot_steps.proofs.touching.put_keys.Given as goal

abbrev pub invariant-loop-key : goal.invariant-loop-key
invariant-loop-key l =
    record {
      keys_are : (k : EntityKey) → (contains key_cmp l.keys k || list_any (same_key k) (into_iter_items l.key-iterator)) ≡ (contains key_cmp l.fn.keys k || list_any (same_key k) l.fn.more);
      length_is : into_iter_len l.key-iterator ≡ length (into_iter_items l.key-iterator);
    }
