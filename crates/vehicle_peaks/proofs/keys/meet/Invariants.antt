use Rattle.std.proofs.Common.{◌≡◌, drop, false, length}
use Rattle.std.specs.List.{list_any}
use Rattle.std.specs.Ordering.{is_lt}
use Rattle.rule_table.specs.Order.{key_cmp, same_key}
use Rattle.rule_table.specs.declared.key.EntityKey.{EntityKey}
use Rattle.vehicle_peaks.proofs.keys.meet.Given as goal

abbrev pub invariant-loop-i : goal.invariant-loop-i
invariant-loop-i l =
    record {
      stays : (k : EntityKey) → is_lt (key_cmp k l.key) ≡ false → list_any (same_key k) (drop l.i l.keys) ≡ list_any (same_key k) (drop l.from l.keys);
      small : l.i-end ≡ length l.keys;
    }
