use Rattle.std.proofs.Common.{◌≡◌, ℕ, ◌+◌, ◌<◌, ◌∙◌, List, ◌∷◌, length, get_or, drop, ap, sym, subst, arith}
use Rattle.feed_values.specs.Snapshot.{entity_payloads}
use Rattle.snapshot_keys.specs.declared.placing.EntityPlace.{EntityPlace}
use Rattle.std.proofs.lemmas.List.{drop_more, length-drop}
use Rattle.feed_values.specs.Views.{feed_header_value}
use Rattle.rule_history.specs.Answered.{Heads, tables_of}
use Rattle.rule_table.specs.Found.{Found}
use Rattle.snapshot_keys.specs.judging.Judged.{first_heads, found_at_seats}
use Rattle.snapshot_keys.specs.Places.{placed}
use Rattle.snapshot_keys.proofs.OneMore.{within_next}
use Rattle.run_snapshot.proofs.Sent.{Left, left_all, left_next, left_cut, at_err}
use Rattle.run_snapshot.proofs.findings.send_entities.Goals as goal

-- the place that comes next in a list
next_is : (es : List EntityPlace) (i : ℕ) (place : EntityPlace) → i < length es → place ≡ get_or es i place → drop i es ≡ place ∷ drop (i + 1) es
next_is es i place l is = drop_more es i place l ∙ ap (λ x. x ∷ drop (i + 1) es) (sym is)

pub loop-place-init : goal.loop-place-init
loop-place-init g c =
    let t = tables_of c.args.setting.now.table.now in
    let rows = g.P.PairView.rows c.args.setting.now.view.now in
    let heads : Heads = first_heads (feed_header_value c.args.setting.now.header.now) c.args.setting.now.moment in
    let all : List Found = found_at_seats t rows heads (placed c.args.kept.now c.args.places.now) in
    record {
      left = left_all (g.S.Sink.state c.args.out.now).written c.args.lines.now all;
      within = c.requires;
      decoded = omega arith;
      tested = omega arith;
      later = omega arith;
    }

-- the findings of an entity couldn't be sent
pub returns-in_err-send_entity-clause-part : goal.returns-in_err-send_entity-clause-part
returns-in_err-send_entity-clause-part g c =
    let t = tables_of c.args.setting.now.table.now in
    let rows = g.P.PairView.rows c.args.setting.now.view.now in
    let heads : Heads = first_heads (feed_header_value c.args.setting.now.header.now) c.args.setting.now.moment in
    let es = c.args.places.now in
    let i = c.loop-place.place-index in
    let all : List Found = found_at_seats t rows heads (placed c.args.kept.now es) in
    let before = (g.S.Sink.state c.args.out.now).written in
    let mid = (g.S.Sink.state c.loop-place.out).written in
    let here = next_is es i c.place-item.result c.loop-place-test.true c.place-item.is in
    let now = (g.S.Sink.state c.send_entity.new.out).written in
    at_err c.from_residual.result
    (left_cut before c.args.lines.now all mid now c.loop-place.lines _ (found_at_seats t rows heads (placed c.args.kept.now (drop (i + 1) es)))
    (subst (λ it. Left before c.args.lines.now all mid c.loop-place.lines (found_at_seats t rows heads (placed c.args.kept.now it))) here c.loop-place.invariant.left)
    c.in_err-send_entity.ensures.part)

-- the findings of one entity more
pub loop-place-preserved : goal.loop-place-preserved
loop-place-preserved g c =
    let t = tables_of c.args.setting.now.table.now in
    let rows = g.P.PairView.rows c.args.setting.now.view.now in
    let heads : Heads = first_heads (feed_header_value c.args.setting.now.header.now) c.args.setting.now.moment in
    let es = c.args.places.now in
    let i = c.loop-place.place-index in
    let all : List Found = found_at_seats t rows heads (placed c.args.kept.now es) in
    let before = (g.S.Sink.state c.args.out.now).written in
    let mid = (g.S.Sink.state c.loop-place.out).written in
    let here = next_is es i c.place-item.result c.loop-place-test.true c.place-item.is in
    let now = (g.S.Sink.state c.send_entity.new.out).written in
    let now_left = length-drop i es in
    let then_left = length-drop (i + 1) es in
    record {
      left = left_next before c.args.lines.now all mid now c.loop-place.lines c.send_entity.new.lines _ (found_at_seats t rows heads (placed c.args.kept.now (drop (i + 1) es)))
          (subst (λ it. Left before c.args.lines.now all mid c.loop-place.lines (found_at_seats t rows heads (placed c.args.kept.now it))) here c.loop-place.invariant.left)
          c.in_ok-send_entity.ensures.sent;
      within = (within_next c.args.kept.now es i c.place-item.result c.loop-place-test.true c.loop-place.invariant.within).1;
      decoded = omega (arith, now_left, then_left, c.loop-place-test.true, c.loop-place.invariant.decoded, c.in_ok-send_entity.ensures.counted.decodes);
      tested = omega (arith, now_left, then_left, c.loop-place-test.true, c.loop-place.invariant.tested, c.in_ok-send_entity.ensures.counted.tests);
      later = omega (arith, c.loop-place.invariant.later, c.in_ok-send_entity.ensures.later);
    }

-- the snapshot has the entity whose findings are sent
pub send_entity-requires : goal.send_entity-requires
send_entity-requires g c =
    subst (λ (place : EntityPlace). place.number < length (entity_payloads c.args.kept.now)) (sym c.place-item.is)
    (within_next c.args.kept.now c.args.places.now c.loop-place.place-index c.place-item.result c.loop-place-test.true c.loop-place.invariant.within).0

-- nothing more is decoded or tested where the findings of an entity couldn't be sent
pub returns-in_err-send_entity-clause-most : goal.returns-in_err-send_entity-clause-most
returns-in_err-send_entity-clause-most g c =
    let now_left = length-drop c.loop-place.place-index c.args.places.now in
    record {
      decodes = omega (arith, now_left, c.loop-place-test.true, c.loop-place.invariant.decoded, c.in_err-send_entity.ensures.most.decodes);
      tests = omega (arith, now_left, c.loop-place-test.true, c.loop-place.invariant.tested, c.in_err-send_entity.ensures.most.tests);
    }
