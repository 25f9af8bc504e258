use Rattle.std.proofs.Common.{◌||◌, sym, ◌∙◌, ap}
use Rattle.std.specs.Prelude.{option_map}
use Rattle.std.specs.BTreeSet.{contains}
use Rattle.rule_table.specs.Order.{key_cmp}
use Rattle.pairing_rules.specs.Rows.{held_row}
use Rattle.pairing_rules.specs.Slots.{is_key}
use Rattle.pairing_rules.proofs.SharedKeys.{key-put}
use Rattle.pairing_rules.proofs.naming.put_key.Goals as goal

pub returns-in_ok-insert-in-Some : goal.returns-in_ok-insert-in-Some
returns-in_ok-insert-in-Some c = λ key.
    c.in_ok-insert-in-Some.ensures.updates.0 key
    ∙ key-put key c.in_ok-clone-in-Some.field-0 (held_row c.args.entry.now.kind c.in-Some.row.value).key (contains key_cmp c.args.keys.now key) (c.in_ok-clone-in-Some.ensures ∙ ap (λ h. (held_row c.args.entry.now.kind h).key) c.deref.ensures)
    ∙ ap (λ x. contains key_cmp c.args.keys.now key || is_key key (option_map (λ h. held_row c.args.entry.now.kind h.value) x)) (sym c.in-Some.is)
