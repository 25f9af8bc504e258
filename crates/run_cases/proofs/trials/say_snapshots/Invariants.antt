use Rattle.trial_feed.specs.Moving.{IsWithin}
use Rattle.run_cases.proofs.trials.say_snapshots.Given as goal

abbrev pub invariant-loop-number : goal.invariant-loop-number
invariant-loop-number l = IsWithin l.number l.trial
