use Rattle.std.proofs.Common.{◌<◌, [], length, get_or, sym, refl, ◌∙◌, arith}
use Rattle.entity_index.proofs.Finding.{ids_next, ids_differ, ids_end}
use Rattle.feed_values.specs.Snapshot.{entity_payloads}
use Rattle.rule_history.specs.History.{id_of}
use Rattle.entity_index.proofs.keys.have_same_ids.Goals as goal

pub have_same_id-requires-clause-old : goal.have_same_id-requires-clause-old
have_same_id-requires-clause-old c =
    let i = c.loop-place.invariant in
    omega (arith, i.small, i.lengths, c.loop-place-test.true)

pub have_same_id-requires-clause-new : goal.have_same_id-requires-clause-new
have_same_id-requires-clause-new c =
    let i = c.loop-place.invariant in
    omega (arith, i.small, c.loop-place-test.true)

pub returns : goal.returns
returns c =
    let i = c.loop-place.invariant in
    ids_end (entity_payloads c.args.old.now) (entity_payloads c.args.new.now) c.loop-place.place _
    (omega (arith, i.small, i.lengths, c.loop-place-test.false)) (omega (arith, i.small, c.loop-place-test.false)) i.same

pub returns-then-not-have_same_id : goal.returns-then-not-have_same_id
returns-then-not-have_same_id c =
    let i = c.loop-place.invariant in
    let qs = entity_payloads c.args.old.now in
    let ps = entity_payloads c.args.new.now in
    let place = c.loop-place.place in
    let l : place < length qs = omega (arith, i.small, i.lengths, c.loop-place-test.true) in
    let m : place < length ps = omega (arith, i.small, c.loop-place-test.true) in
    ids_differ qs ps place l m (id_of (get_or qs place [])) (id_of (get_or ps place [])) refl refl _ (sym c.have_same_id.ensures ∙ c.if-not-have_same_id.true) i.same

pub loop-place-preserved : goal.loop-place-preserved
loop-place-preserved c =
    let i = c.loop-place.invariant in
    let qs = entity_payloads c.args.old.now in
    let ps = entity_payloads c.args.new.now in
    let place = c.loop-place.place in
    let l : place < length qs = omega (arith, i.small, i.lengths, c.loop-place-test.true) in
    let m : place < length ps = omega (arith, i.small, c.loop-place-test.true) in
    record {
      same = ids_next qs ps place l m (id_of (get_or qs place [])) (id_of (get_or ps place [])) refl refl _ (sym c.have_same_id.ensures ∙ c.if-not-have_same_id.false) i.same;
      small = i.small;
      lengths = i.lengths;
    }
