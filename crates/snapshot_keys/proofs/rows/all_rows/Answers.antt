use Rattle.std.proofs.Common.{◌+◌, ◌++◌, [], drop, refl, ap, subst, ◌∙◌}
use Rattle.feed_values.specs.Snapshot.{entity_of, entity_payloads}
use Rattle.rule_table.specs.Pairs.{rows_of}
use Rattle.judging.specs.Judged.{seat_rows}
use Rattle.snapshot_keys.specs.Places.{AreWithin, placed}
use Rattle.snapshot_keys.proofs.ByIds.{so_far_next}
use Rattle.snapshot_keys.proofs.OneMore.{next_is, read_payload}
use Rattle.snapshot_keys.proofs.rows.all_rows.Goals as goal

pub loop-place-init : goal.loop-place-init
loop-place-init c = record {
  so_far = record { done = []; held = c.new-rows.ensures; are = refl };
  within = c.requires;
}

pub loop-place-preserved : goal.loop-place-preserved
loop-place-preserved c =
    let bytes = c.args.kept.now in
    let es = c.args.places.now in
    let i = c.loop-place.place-index in
    let place = c.place-item.result in
    let here = next_is es i place c.loop-place-test.true c.place-item.is in
    record {
      so_far = so_far_next c.loop-place.rows _ (rows_of place.key (entity_of c.entity.result.now)) (seat_rows (placed bytes (drop i es))) (seat_rows (placed bytes (drop (i + 1) es))) _ c.loop-place.invariant.so_far
          (ap (λ xs. seat_rows (placed bytes xs)) here
          ∙ ap (λ p. rows_of place.key (entity_of p) ++ seat_rows (placed bytes (drop (i + 1) es))) (read_payload (entity_payloads bytes) place.number c.entity.result.now c.entity.ensures.payload))
          c.in_ok-add_rows.ensures;
      within = (subst (AreWithin bytes) here c.loop-place.invariant.within).1;
    }

-- the snapshot has the entity whose rows are put in
pub entity-requires : goal.entity-requires
entity-requires c =
    (subst (AreWithin c.args.kept.now) (next_is c.args.places.now c.loop-place.place-index c.place-item.result c.loop-place-test.true c.place-item.is) c.loop-place.invariant.within).0
