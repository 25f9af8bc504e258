use Rattle.std.proofs.Common.{◌+◌, refl, ap, ◌∙◌, sym, subst, cond, bytes_eq, take, arith}
use Rattle.std.specs.Io.KnownBytes.{append_known}
use Rattle.feed_values.specs.Snapshot.{entities_of}
use Rattle.feed_values.specs.Views.{entity_value}
use Rattle.judging.specs.Seats.{count_id}
use Rattle.rule_table.specs.Counts.{count_in}
use Rattle.rt_outside.specs.Sink.{AppendsPrefix}
use Rattle.timetable.specs.Lookups.{tables_in}
use Rattle.trip_calendar.specs.Zones.{zone_of}
use Rattle.run_predict.specs.Predicted.{AreUpdateRows}
use Rattle.run_predict.proofs.Placed.{as_many, counted_next}
use Rattle.run_predict.proofs.Texts.{so_far_all, so_far_failed, so_far_more, so_far_part}
use Rattle.run_predict.proofs.prediction.put_entities.Goals as goal

-- an entity couldn't be decoded, counted or told
pub returns-in_err-entity-clause-part : goal.returns-in_err-entity-clause-part
returns-in_err-entity-clause-part g c =
    let many = as_many c.args.kept.now in
    so_far_part (tables_in c.args.table.now) (zone_of c.args.zone.now) c.args.moment (entities_of c.args.kept.now) _ _ c.loop-place.place (omega (arith, many, c.loop-place.invariant.within)) c.loop-place.invariant.so_far

pub returns-in_err-occurrence-clause-part : goal.returns-in_err-occurrence-clause-part
returns-in_err-occurrence-clause-part g c =
    let many = as_many c.args.kept.now in
    so_far_part (tables_in c.args.table.now) (zone_of c.args.zone.now) c.args.moment (entities_of c.args.kept.now) _ _ c.loop-place.place (omega (arith, many, c.loop-place.invariant.within)) c.loop-place.invariant.so_far

pub returns-in_err-rows-clause-part : goal.returns-in_err-rows-clause-part
returns-in_err-rows-clause-part g c =
    let many = as_many c.args.kept.now in
    so_far_part (tables_in c.args.table.now) (zone_of c.args.zone.now) c.args.moment (entities_of c.args.kept.now) _ _ c.loop-place.place (omega (arith, many, c.loop-place.invariant.within)) c.loop-place.invariant.so_far

-- the rows of the next entity couldn't be written
pub returns-in_err-put_all-clause-part : goal.returns-in_err-put_all-clause-part
returns-in_err-put_all-clause-part g c =
    let t = tables_in c.args.table.now in
    let zone = zone_of c.args.zone.now in
    let e = c.in_ok-entity.entity in
    let before = c.in_ok-occurrence.ensures.before ∙ ap (count_in c.loop-place.counts) c.as_str.ensures ∙ c.loop-place.invariant.counted e.id in
    so_far_failed t zone c.args.moment (entities_of c.args.kept.now) _ _ _ c.loop-place.place (entity_value e) c.in_ok-rows.rows.items c.in_ok-entity.ensures
    (e, refl, subst (λ n. AreUpdateRows t zone c.args.moment e.id n e.trip_update c.in_ok-rows.rows.items) before c.in_ok-rows.ensures)
    c.loop-place.invariant.so_far
    (subst (AppendsPrefix _ _) c.deref.ensures.value c.in_err-put_all.ensures.err)

pub loop-place-preserved : goal.loop-place-preserved
loop-place-preserved g c =
    let t = tables_in c.args.table.now in
    let zone = zone_of c.args.zone.now in
    let e = c.in_ok-entity.entity in
    let before = c.in_ok-occurrence.ensures.before ∙ ap (count_in c.loop-place.counts) c.as_str.ensures ∙ c.loop-place.invariant.counted e.id in
    record {
      so_far = so_far_more t zone c.args.moment (entities_of c.args.kept.now) _ _ _ c.loop-place.place (entity_value e) c.in_ok-rows.rows.items c.in_ok-entity.ensures
          (e, refl, subst (λ n. AreUpdateRows t zone c.args.moment e.id n e.trip_update c.in_ok-rows.rows.items) before c.in_ok-rows.ensures)
          c.loop-place.invariant.so_far
          (c.in_ok-put_all.ensures.ok ∙ ap (append_known _) c.deref.ensures.value);
      counted = λ other. c.in_ok-occurrence.ensures.after other ∙ ap (λ n. cond (bytes_eq c.as_str.result.now other) 1 0 + n) (c.loop-place.invariant.counted other)
          ∙ ap (λ bs. cond (bytes_eq bs other) 1 0 + count_id (take c.loop-place.place (entities_of c.args.kept.now)) other) c.as_str.ensures
          ∙ sym (counted_next (entities_of c.args.kept.now) c.loop-place.place (entity_value e) c.in_ok-entity.ensures other);
      later = omega (arith, c.loop-place.invariant.later, c.in_ok-put_all.ensures.cause.later);
      small = c.loop-place.invariant.small;
      within = omega (arith, c.loop-place-test.true, c.loop-place.invariant.small);
    }

pub returns-clause-part : goal.returns-clause-part
returns-clause-part g c =
    let many = as_many c.args.kept.now in
    so_far_part (tables_in c.args.table.now) (zone_of c.args.zone.now) c.args.moment (entities_of c.args.kept.now) _ _ c.loop-place.place (omega (arith, many, c.loop-place.invariant.within)) c.loop-place.invariant.so_far

pub returns-clause-whole : goal.returns-clause-whole
returns-clause-whole g c =
    let many = as_many c.args.kept.now in
    so_far_all (tables_in c.args.table.now) (zone_of c.args.zone.now) c.args.moment (entities_of c.args.kept.now) _ _ c.loop-place.place (omega (arith, many, c.loop-place-test.false, c.loop-place.invariant.small, c.loop-place.invariant.within)) c.loop-place.invariant.so_far
