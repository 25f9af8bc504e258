use Rattle.std.proofs.Common.{sym, subst}
use Rattle.trial_feed.specs.Moving.{IsWithin}
use Rattle.trial_feed.proofs.Starts.{begun_is, begun_within}
use Rattle.trial_feed.proofs.trial.Trial.new.Goals as goal

pub returns-clause-start : goal.returns-clause-start
returns-clause-start c = begun_is c.args.seed _ _ c.in_ok-first_states.ensures c.in_ok-first_states-2.ensures

pub returns-clause-within : goal.returns-clause-within
returns-clause-within c =
    subst (IsWithin 0) (sym (begun_is c.args.seed _ _ c.in_ok-first_states.ensures c.in_ok-first_states-2.ensures)) (begun_within c.args.seed)
