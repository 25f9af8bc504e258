use Rattle.std.proofs.Common.{ℕ, List, None, refl, subst}
use Rattle.feed_stream.specs.declared.splitter.Walk.{Walk}
use Rattle.feed_stream.specs.declared.splitter.Found.TheVariants as found
use Rattle.feed_stream.specs.Came.{Came}
use Rattle.feed_stream.specs.Inside.{sofar}
use Rattle.feed_stream.proofs.Feeding.{came_walked, starts}
use Rattle.feed_stream.proofs.splitter.Splitter.new.Goals as goal

pub invariant_of-result : goal.invariant_of-result
invariant_of-result c = starts _ c.new.ensures.items refl c.new-2.ensures.header c.new-2.ensures.entities refl refl

pub returns-clause-came : goal.returns-clause-came
returns-clause-came c =
    let w : Walk = record { bytes = c.new.result; reached = record { next = 0; layout = c.new-2.result; front = None; unfinished = None } } in
    subst (λ (b : List ℕ). Came b (sofar (found.Walked w))) c.new.ensures.items (came_walked w (starts w c.new.ensures.items refl c.new-2.ensures.header c.new-2.ensures.entities refl refl))
