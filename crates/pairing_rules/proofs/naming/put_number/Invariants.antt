use Rattle.std.proofs.Common.{◌≡◌, ◌||◌}
use Rattle.std.specs.BTreeSet.{contains}
use Rattle.std.specs.List.{list_any}
use Rattle.rule_table.specs.Order.{key_cmp}
use Rattle.rule_table.specs.declared.key.EntityKey.{EntityKey}
use Rattle.pairing_rules.specs.Slots.{seen, has_key, has_key_at}
use Rattle.pairing_rules.proofs.naming.put_number.Given as goal

abbrev pub invariant-loop-entry : goal.invariant-loop-entry
invariant-loop-entry l = (key : EntityKey) → (contains key_cmp l.keys key || list_any (λ e. has_key key (seen e)) l.entry-iterator) ≡ (contains key_cmp l.fn.keys key || has_key_at l.entries l.fn.number key)
