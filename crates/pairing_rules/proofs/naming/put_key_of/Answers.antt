use Rattle.std.proofs.Common.{◌&&◌, ◌||◌, ◌∙◌, ap}
use Rattle.std.specs.BTreeSet.{contains}
use Rattle.rule_table.specs.Order.{key_cmp, same_key}
use Rattle.pairing_rules.proofs.SharedKeys.{key-put}
use Rattle.pairing_rules.proofs.naming.put_key_of.Goals as goal

pub returns-in_ok-insert : goal.returns-in_ok-insert
returns-in_ok-insert c = λ key.
    c.in_ok-insert.ensures.updates.0 key ∙ key-put key c.in_ok-clone.field-0 c.args.row.now.key (contains key_cmp c.args.keys.now key) c.in_ok-clone.ensures
    ∙ ap (λ b. contains key_cmp c.args.keys.now key || (b && same_key key c.args.row.now.key)) c.if-eq.ensures
