use Rattle.std.proofs.Common.{◌∙◌}
use Rattle.propagation.proofs.MatchLemmas.{matcher-next}
use Rattle.propagation.proofs.matching.matchers.Goals as goal

pub loop-index-preserved : goal.loop-index-preserved
loop-index-preserved c = record {
  size = c.note.ensures.size ∙ c.loop-index.invariant.size;
  agree = λ place lt. matcher-next c.args.places.now c.loop-index.index place _ _ c.loop-index-test.true c.requires.ordered
      (c.loop-index.invariant.agree place lt) (c.note.ensures.noted place);
}
