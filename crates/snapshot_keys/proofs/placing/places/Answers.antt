use Rattle.std.proofs.Common.{◌≡◌, ◌+◌, ◌∙◌, ◌++◌, None, drop, option_copied, ap, sym, subst, arith}
use Rattle.snapshot_keys.specs.ById.{AreById}
use Rattle.snapshot_keys.specs.Places.{AreWithin, placed}
use Rattle.snapshot_keys.proofs.Sorting.{all_within, seated}
use Rattle.snapshot_keys.proofs.Walked.{last, walk, walk_all, walk_next}
use Rattle.snapshot_keys.proofs.placing.places.Goals as goal

pub loop-entity-preserved : goal.loop-entity-preserved
loop-entity-preserved c =
    let f = c.args.feed in
    let ns = c.deref-entity-items.result.now in
    let i = c.loop-entity.entity-index in
    subst (λ xs. xs ++ walk f (last xs) (drop (i + 1) ns) ≡ walk f None ns) (sym c.in_ok-push.ensures.items)
    (walk_next f c.loop-entity.places.items ns i _ (option_copied c.last.result) _ _ c.loop-entity-test.true (c.last.ensures.value ∙ ap last c.deref.ensures.value) c.in_ok-key.ensures c.loop-entity.invariant)

pub returns : goal.returns
returns c =
    let bytes = c.args.kept.now in
    let f = c.args.feed in
    let ns = c.deref-entity-items.result.now in
    let are : AreById bytes ns = subst (AreById bytes) (sym c.deref-entity-items.ensures.value) c.in_ok-entities.ensures in
    let all = walk_all f c.loop-entity.places.items ns c.loop-entity.entity-index (walk f None ns) (omega arith) c.loop-entity.invariant in
    record {
      seats_are = ap (placed bytes) all ∙ seated bytes f ns are;
      within = subst (AreWithin bytes) (sym all) (all_within bytes f ns are);
    }
