use Rattle.std.proofs.Common.{◌≡◌, ◌++◌, drop, map}
use Rattle.std.specs.List.{enumerate_from}
use Rattle.trial_feed.specs.Messages.{entity_of, entities_of}
use Rattle.trial_feed.proofs.entities.entities.Given as goal

-- what was made and what is left are all
abbrev pub invariant-loop-k : goal.invariant-loop-k
invariant-loop-k l =
    l.entities ++ map (λ e. entity_of l.feed e.0 e.1) (enumerate_from l.k (drop l.k l.states)) ≡ entities_of l.feed l.states
