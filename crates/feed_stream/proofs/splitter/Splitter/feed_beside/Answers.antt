use Rattle.std.proofs.Common.{◌≡◌, ◌++◌, ℕ, List, arith, sym, subst, ap, ◌∙◌}
use Rattle.feed_stream.specs.declared.splitter.Found.TheVariants as found
use Rattle.feed_stream.specs.Sofar.{Sofar}
use Rattle.feed_stream.specs.Inside.{IsFound, IsWalk, sofar}
use Rattle.feed_stream.specs.Came.{Came}
use Rattle.feed_stream.proofs.Feeding.{came_more, came_is}
use Rattle.feed_stream.proofs.splitter.Splitter.feed_beside.Goals as goal
use Rattle.feed_stream.proofs.splitter.Splitter.feed_beside.Goals.{in-Refused, in-Walked+in_ok-found-in-Walked}

pub returns-clause-came : goal.returns-clause-came
returns-clause-came c b came = elim c.match-found.branch [
  | in-Refused w ↦
      let r = w.in-Refused.refusal in
      let n = w.in-Refused.count in
      let piece = c.args.piece.now in
      let before : Came b (sofar (found.Refused r n)) = subst (λ (s : Sofar). Came b s) (sym c.self.view_is ∙ ap sofar w.in-Refused.is) came in
      rw w.found-is (came_more b piece r n w.saturating_add.result (λ i. omega (arith, c.type_inv.piece i)) (λ le. omega (arith, w.saturating_add.ensures, le)) (λ lt. omega (arith, w.saturating_add.ensures, lt)) before)
  | in-Walked+in_ok-found-in-Walked w ↦
      let k = w.in-Walked.walk in
      let inside : IsWalk k = subst IsFound w.in-Walked.is c.self.invariant in
      let before : Came b (sofar (found.Walked k)) = subst (λ (s : Sofar). Came b s) (sym c.self.view_is ∙ ap sofar w.in-Walked.is) came in
      let same : k.bytes.items ≡ b = came_is b k inside.small before in
      rw w.found-is (subst (λ (x : List ℕ). Came (x ++ c.args.piece.now) (sofar w.in_ok-found-in-Walked.found)) same w.in_ok-found-in-Walked.ensures.came)
]
