use Rattle.std.proofs.Common.{◌≡◌, ◌∙◌, ◌+◌, ◌*◌, List, ap, sym, drop, length, arith, mul-add}
use Rattle.std.specs.Prelude.{is_some}
use Rattle.rule_table.specs.declared.key.EntityKey.{EntityKey}
use Rattle.touched_entities.specs.Again.{lists_then, told_then}
use Rattle.touched_entities.proofs.OneMore.{among_drop, key_first, lists_step, not_again, ordered_step, rest_rises, same_payload, same_twice, told_step}
use Rattle.touched_entities.proofs.again.judge_again.Goals as goal

pub judge_one-requires-clause-held : goal.judge_one-requires-clause-held
judge_one-requires-clause-held g c =
    let key = c.key-item.result in
    ap is_some (same_payload c.args.index.now c.loop-key.index c.loop-key.invariant.feeds_are key)
    ∙ c.requires.held key (among_drop c.args.keys.now c.loop-key.key-index key c.loop-key-test.true c.key-item.is)

pub loop-key-preserved : goal.loop-key-preserved
loop-key-preserved g c =
    let part = c.args.renewal.now.part in
    let n = c.args.renewal.now.applied in
    let find = g.J.EntityPart.found c.args.renewal.now.judge.now in
    let count = g.J.EntityPart.count c.args.renewal.now.judge.now in
    let held = c.loop-key.invariant in
    let keys = c.args.keys.now in
    let i = c.loop-key.key-index in
    let key = c.key-item.result in
    let rest = drop (i + 1) keys in
    let old = c.loop-key.index in
    let new = c.judge_one.new.index in
    let one = c.in_ok-judge_one.ensures in
    let first = key_first keys i key c.loop-key-test.true c.key-item.is in
    let rises = rest_rises keys i key c.loop-key-test.true c.key-item.is held.rises in
    let apart = not_again key rest rises in
    record {
      lists_are = λ k. lists_step part n find key rest apart old new one.feeds one.lists k ∙ ap (λ ks. lists_then part n find ks old k) (sym first) ∙ held.lists_are k;
      told_are = λ k. told_step part n find key rest apart old new one.feeds one.lists c.loop-key.tolds c.judge_one.new.tolds one.told k ∙ ap (λ ks. told_then part n find ks old c.loop-key.tolds k) (sym first) ∙ held.told_are k;
      feeds_are = same_twice c.args.index.now old new held.feeds_are one.feeds;
      headers_are = λ f. one.headers f ∙ held.headers_are f;
      own = λ are. one.own (held.own are);
      rises = rises.1;
      ordered = ordered_step part n find key rest apart old new one.feeds one.lists (g.met.J.EntityPart.rises c.args.renewal.now.judge.now) held.ordered;
      within = omega (arith, c.loop-key-test.true);
      ticked = one.ticked ∙ ap (λ x. x + count) held.ticked ∙ omega (arith, mul-add count i 1);
    }
