use Rattle.std.proofs.Common.{◌∙◌, ◌+◌, ◌<◌, length, subst, arith}
use Rattle.feed_values.specs.Accepted.{snapshot_limit}
use Rattle.feed_merge.proofs.Parts.{kept_ends, kept_next, kept_too_large}
use Rattle.feed_merge.proofs.spelling.put_entities.Goals as goal

pub entity-requires : goal.entity-requires
entity-requires c = omega (arith, c.loop-place.invariant.many, c.loop-place-test.true)

-- one entity more
pub loop-place-preserved : goal.loop-place-preserved
loop-place-preserved c =
    record {
      written = kept_next c.args.number c.args.feed.now c.loop-place.place c.entity.result.now c.as_str.result.now _ c.args.bytes.now.items c.loop-place.bytes.items c.put_entity.new.bytes.items
          (omega (arith, c.loop-place.invariant.many, c.loop-place-test.true)) c.entity.ensures.payload (c.as_str.ensures.value ∙ c.in_ok-prefix.ensures) c.in_ok-held.ensures.value
          c.loop-place.invariant.written c.in_ok-put_entity.ensures;
      many = c.loop-place.invariant.many;
      within = omega (arith, c.loop-place.invariant.many, c.loop-place-test.true);
    }

-- all of them
pub returns-clause-ok : goal.returns-clause-ok
returns-clause-ok c =
    kept_ends c.args.number c.args.feed.now c.loop-place.place c.args.bytes.now.items c.loop-place.bytes.items
    (omega (arith, c.loop-place.invariant.many, c.loop-place.invariant.within, c.loop-place-test.false)) c.loop-place.invariant.written

-- the entities so far are too many already
pub returns-in_err-within_limit-clause-too_large : goal.returns-in_err-within_limit-clause-too_large
returns-in_err-within_limit-clause-too_large c = λ is.
    kept_too_large c.args.number c.args.feed.now (c.loop-place.place + 1) c.args.bytes.now.items c.put_entity.new.bytes.items
    (kept_next c.args.number c.args.feed.now c.loop-place.place c.entity.result.now c.as_str.result.now _ c.args.bytes.now.items c.loop-place.bytes.items c.put_entity.new.bytes.items
    (omega (arith, c.loop-place.invariant.many, c.loop-place-test.true)) c.entity.ensures.payload (c.as_str.ensures.value ∙ c.in_ok-prefix.ensures) c.in_ok-held.ensures.value
    c.loop-place.invariant.written c.in_ok-put_entity.ensures)
    (subst (λ xs. snapshot_limit < length xs) c.deref.ensures.value c.in_err-within_limit.ensures.err.1)
