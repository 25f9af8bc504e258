use Rattle.std.proofs.Common.{◌||◌, ◌&&◌, ap, ◌∙◌, sym}
use Rattle.rule_table.specs.Order.{key_cmp, same_key}
use Rattle.std.specs.BTreeSet.{contains}
use Rattle.vehicle_peaks.proofs.KeySets.{key-put}
use Rattle.vehicle_peaks.proofs.keys.put_if.Goals as goal

pub returns-in_ok-insert : goal.returns-in_ok-insert
returns-in_ok-insert c = λ k.
    let old = contains key_cmp c.args.keys.now k in
    c.in_ok-insert.ensures.updates.0 k ∙ key-put c.args.key.now k c.in_ok-clone.field-0 old c.in_ok-clone.ensures ∙ ap (λ b. old || (same_key k c.args.key.now && b)) (sym c.if-there.true)
