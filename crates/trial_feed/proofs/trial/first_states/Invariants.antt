use Rattle.std.proofs.Common.{◌≡◌}
use Rattle.trial_feed.specs.Moving.{first_states}
use Rattle.trial_feed.proofs.trial.first_states.Given as goal

abbrev pub invariant-loop-k : goal.invariant-loop-k
invariant-loop-k l = l.states.items ≡ first_states l.feed l.k
