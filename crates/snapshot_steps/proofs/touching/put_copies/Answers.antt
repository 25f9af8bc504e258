use Rattle.std.proofs.Common.{◌∙◌, ◌+◌, drop}
use Rattle.std.specs.BTreeSet.{contains}
use Rattle.rule_table.specs.Order.{key_cmp, same_key}
use Rattle.pairing_rules.proofs.SharedKeys.{key-put}
use Rattle.held_feeds.specs.row_changes.ListsProofs.{one-less}
use Rattle.held_feeds.specs.touched_entities.OneMoreProofs.{key_first}
use Rattle.snapshot_steps.proofs.touching.put_copies.Goals as goal

pub loop-key-preserved : goal.loop-key-preserved
loop-key-preserved c = λ k.
    let item = c.key-item.result in
    let i = c.loop-key.key-index in
    one-less (same_key k) _ _ _ item (drop i c.args.some.now) (drop (i + 1) c.args.some.now)
    (c.in_ok-insert.ensures.updates.0 k ∙ key-put k c.in_ok-clone.field-0 item (contains key_cmp c.loop-key.keys k) c.in_ok-clone.ensures)
    (key_first c.args.some.now i item c.loop-key-test.true c.key-item.is) (c.loop-key.invariant k)
