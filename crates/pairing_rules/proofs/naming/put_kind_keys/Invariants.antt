use Rattle.std.proofs.Common.{◌≡◌, ◌&&◌, ◌||◌}
use Rattle.std.specs.BTreeSet.{contains}
use Rattle.std.specs.List.{list_any}
use Rattle.rule_table.specs.Order.{key_cmp, same_key}
use Rattle.rule_table.specs.Pairs.{is_of}
use Rattle.rule_table.specs.declared.key.EntityKey.{EntityKey}
use Rattle.pairing_rules.specs.Seats.{row_at}
use Rattle.pairing_rules.proofs.naming.put_kind_keys.Given as goal

abbrev pub invariant-loop-seat : goal.invariant-loop-seat
invariant-loop-seat l = (key : EntityKey) → (contains key_cmp l.keys key || list_any (λ e. is_of l.fn.kind (row_at e) && same_key key (row_at e).key) l.seat-iterator) ≡ (contains key_cmp l.fn.keys key || list_any (λ e. is_of l.fn.kind (row_at e) && same_key key (row_at e).key) l.seats.entries)
