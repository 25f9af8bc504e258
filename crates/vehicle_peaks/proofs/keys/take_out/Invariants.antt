use Rattle.std.proofs.Common.{◌≡◌, ◌&&◌, not, drop}
use Rattle.std.specs.BTreeSet.{contains}
use Rattle.std.specs.List.{list_any}
use Rattle.rule_table.specs.Order.{key_cmp, same_key}
use Rattle.rule_table.specs.declared.key.EntityKey.{EntityKey}
use Rattle.vehicle_peaks.proofs.keys.take_out.Given as goal

abbrev pub invariant-loop-key : goal.invariant-loop-key
invariant-loop-key l =
    (k : EntityKey) → (not (list_any (same_key k) (drop l.key-index l.gone)) && contains key_cmp l.keys k) ≡ (not (list_any (same_key k) l.fn.gone) && contains key_cmp l.fn.keys k)
