use Rattle.std.proofs.Common.{◌||◌, ◌∙◌, ap}
use Rattle.std.specs.List.{filter}
use Rattle.std.specs.BTreeSet.{contains}
use Rattle.std.specs.BTreeMap.Range.{range_contains}
use Rattle.std.specs.declared.ops.Bound.TheVariants.{Included, Excluded}
use Rattle.std.specs.Map.Iter.{deref}
use Rattle.std.proofs.lemmas.Map.Iter.{rest_more}
use Rattle.rule_table.specs.Order.{key_cmp}
use Rattle.rule_table.specs.declared.kind.Kind.TheVariants.{TripUpdate}
use Rattle.pairing_rules.specs.Slots.{entry_cmp, low}
use Rattle.pairing_rules.proofs.SharedKeys.{range-keys, key-step}
use Rattle.pairing_rules.proofs.naming.put_number.Goals as goal

pub loop-entry-init : goal.loop-entry-init
loop-entry-init c = λ key.
    let keys = c.args.entries.now.keys in
    ap (λ b. contains key_cmp c.args.keys.now key || b) (range-keys key c.args.number _ keys
    (c.into_iter-entry-iterator.ensures.into_iter_gives ∙ c.range-entry-items.ensures.between tt
    ∙ ap (λ e. filter (range_contains entry_cmp (Included e) (Excluded c.low-high.result)) keys) c.low-low.ensures
    ∙ ap (λ e. filter (range_contains entry_cmp (Included (low c.args.number TripUpdate 0)) (Excluded e)) keys) c.low-high.ensures))

pub loop-entry-preserved : goal.loop-entry-preserved
loop-entry-preserved c = λ key.
    key-step key _ _ _ c.in-Some.entry.now _ c.next.new.self (c.in_ok-put_key.ensures key)
    (rest_more deref _ c.next.new.self c.next.result c.in-Some.entry c.in-Some.is c.next.ensures.steps) (c.loop-entry.invariant key)
