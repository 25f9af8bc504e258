use Rattle.std.proofs.Common.{◌∙◌, ◌&&◌, ◌||◌, ap, arith, not, sym, subst}
use Rattle.std.proofs.Math.Bool.{or-false}
use Rattle.std.specs.BTreeMap.{is_at}
use Rattle.std.specs.BTreeSet.{contains}
use Rattle.std.specs.List.{list_any}
use Rattle.feed_values.specs.Views.{entity_value}
use Rattle.rule_table.specs.declared.key.EntityKey.{EntityKey}
use Rattle.rule_table.specs.Order.{key_cmp, same_key}
use Rattle.rule_table.specs.Peaks.{vehicle_id_of}
use Rattle.rule_table.specs.Rises.{Rising}
use Rattle.history_rules.specs.HeldPeaks.{ids_seen}
use Rattle.entity_index.specs.Held.{KeyedValues, entities_before, held_at, values_of}
use Rattle.vehicle_peaks.specs.Rises.{has_rise}
use Rattle.vehicle_peaks.proofs.Beside.{AreLeft, all_left, before_rise, beside_all, is_raised_beside, left_more}
use Rattle.vehicle_peaks.proofs.Entities.{raised_all, tested_more}
use Rattle.vehicle_peaks.proofs.keys.raised_keys.Goals as goal

pub loop-key-init : goal.loop-key-init
loop-key-init c =
    let bytes = (held_at c.args.index.now c.args.feed).bytes in
    let gives = c.into_iter-key-iterator.ensures.into_iter_gives ∙ c.entities-key-items.ensures in
    let tests = λ (k : EntityKey). is_raised_beside (ids_seen c.args.stamps.now) c.args.fresh.now k in
    record {
      keys_are = λ k. ap (λ ks. list_any (is_at (key_cmp k)) ks || list_any (tests k) c.into_iter-key-iterator.result) c.new-keys.ensures.empty ∙ ap (list_any (tests k)) gives;
      left = all_left c.args.fresh.now c.into_iter-key-iterator.result;
      rise = subst (λ (es : KeyedValues). Rising es) (sym gives) (before_rise c.args.feed bytes);
      within = omega arith;
    }

pub loop-key-preserved : goal.loop-key-preserved
loop-key-preserved c =
    let rises = ids_seen c.args.stamps.now in
    let fresh = c.args.fresh.now in
    let key = c.in-Some.key.now in
    let held = c.loop-key in
    let rest = c.next.new.self in
    let left = subst (λ (es : KeyedValues). AreLeft fresh held.at es) c.in-Some.ensures.steps held.invariant.left in
    let rise = subst (λ (es : KeyedValues). Rising es) c.in-Some.ensures.steps held.invariant.rise in
    record {
      keys_are = λ k.
          tested_more (is_raised_beside rises fresh k) _ rest _ _ _ _
          (c.in_ok-put_if.ensures k
          ∙ ap (λ b. contains key_cmp held.keys k || (same_key k key && b))
          (c.is_raised-there.ensures ∙ ap (λ b. not b && has_rise rises (vehicle_id_of (entity_value c.in-Some.entity.now))) (c.meet-met.ensures.met ∙ left.0)))
          c.in-Some.ensures.steps (held.invariant.keys_are k);
      left = left_more fresh held.at c.meet-met.result.at key c.meet-met.ensures.greater rest rise.0 left.1;
      rise = rise.1;
      within = c.meet-met.ensures.within;
    }

pub returns : goal.returns
returns c = λ key.
    let rises = ids_seen c.args.stamps.now in
    let fresh = c.args.fresh.now in
    let found = contains key_cmp c.loop-key.keys key in
    let bytes = (held_at c.args.index.now c.args.feed).bytes in
    sym (ap (λ es. found || list_any (is_raised_beside rises fresh key) es) c.in-None.ensures.steps.0 ∙ or-false found) ∙ c.loop-key.invariant.keys_are key
    ∙ beside_all rises fresh key (values_of (entities_before c.args.feed bytes)) ∙ ap (λ b. not (list_any (same_key key) fresh) && b) (raised_all rises key c.args.feed bytes)
