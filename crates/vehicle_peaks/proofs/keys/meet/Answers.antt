use Rattle.std.proofs.Common.{◌≡◌, ◌∙◌, List, ap, arith, drop, length, refl, sym}
use Rattle.std.specs.List.{list_any}
use Rattle.rule_table.specs.Order.{same_key}
use Rattle.rule_table.specs.declared.key.EntityKey.{EntityKey}
use Rattle.vehicle_peaks.proofs.Beside.{above_stays, drop_end, met, missed, passed, self_stays}
use Rattle.vehicle_peaks.proofs.keys.meet.Goals as goal

pub returns-in-Equal-clause-met : goal.returns-in-Equal-clause-met
returns-in-Equal-clause-met c =
    let key = c.args.key.now in
    sym (met c.args.keys.now c.loop-i.i c.index-keys-i.result c.loop-i-test.true c.index-keys-i.is key (sym c.in-Equal.ensures)) ∙ c.loop-i.invariant.stays key (self_stays key)

pub returns-in-Equal-clause-greater : goal.returns-in-Equal-clause-greater
returns-in-Equal-clause-greater c = λ k above. c.loop-i.invariant.stays k (above_stays c.args.key.now k above)

pub returns-in-Greater-clause-met : goal.returns-in-Greater-clause-met
returns-in-Greater-clause-met c =
    let key = c.args.key.now in
    sym (missed c.args.keys.now c.loop-i.i c.index-keys-i.result c.loop-i-test.true c.index-keys-i.is c.requires.ordered key (sym c.in-Greater.ensures)) ∙ c.loop-i.invariant.stays key (self_stays key)

pub returns-in-Greater-clause-greater : goal.returns-in-Greater-clause-greater
returns-in-Greater-clause-greater c = λ k above. c.loop-i.invariant.stays k (above_stays c.args.key.now k above)

pub loop-i-preserved : goal.loop-i-preserved
loop-i-preserved c = record {
  stays = λ k stays. passed c.args.keys.now c.loop-i.i c.index-keys-i.result c.loop-i-test.true c.index-keys-i.is c.args.key.now k (sym c.in-Less.ensures) stays ∙ c.loop-i.invariant.stays k stays;
  small = refl;
}

pub returns-clause-met : goal.returns-clause-met
returns-clause-met c =
    let keys = c.args.keys.now in
    let key = c.args.key.now in
    let end : c.loop-i.i ≡ length keys = omega arith in
    sym (ap (λ i. list_any (same_key key) (drop i keys)) end ∙ ap (λ (ks : List EntityKey). list_any (same_key key) ks) (drop_end keys)) ∙ c.loop-i.invariant.stays key (self_stays key)

pub returns-clause-greater : goal.returns-clause-greater
returns-clause-greater c = λ k above.
    let keys = c.args.keys.now in
    let end : c.loop-i.i ≡ length keys = omega arith in
    sym (ap (λ i. list_any (same_key k) (drop i keys)) end) ∙ c.loop-i.invariant.stays k (above_stays c.args.key.now k above)
