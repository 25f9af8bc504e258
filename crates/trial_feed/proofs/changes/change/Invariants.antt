use Rattle.trial_feed.proofs.changes.change.Given as goal
use Rattle.trial_feed.proofs.Changing.{Changing}

abbrev pub invariant-loop-j : goal.invariant-loop-j
invariant-loop-j l = Changing l.first l.j l.state l.entities (record { state = l.fn.state; entities = l.fn.entities })
