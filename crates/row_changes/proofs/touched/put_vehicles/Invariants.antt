use Rattle.std.proofs.Common.{◌≡◌, ◌&&◌, ◌||◌, ℕ, List}
use Rattle.std.specs.BTreeSet.{contains}
use Rattle.std.specs.List.{list_any}
use Rattle.rule_table.specs.Order.{key_cmp, same_key}
use Rattle.rule_table.specs.Pairs.{is_id}
use Rattle.rule_table.specs.declared.key.EntityKey.{EntityKey}
use Rattle.row_changes.proofs.touched.put_vehicles.Given as goal

abbrev pub invariant-loop-vehicle : goal.invariant-loop-vehicle
invariant-loop-vehicle l = (key : EntityKey) → (contains key_cmp l.keys key || list_any (λ (q : List ℕ). list_any (λ r. is_id q r.vehicle && same_key key r.key) l.pairs) l.vehicle-iterator)
    ≡ (contains key_cmp l.fn.keys key || list_any (λ (q : List ℕ). list_any (λ r. is_id q r.vehicle && same_key key r.key) l.pairs) l.vehicles.keys)
