use Rattle.std.proofs.Common.{◌+◌, sym, subst}
use Rattle.trial_feed.specs.Moving.{IsWithin}
use Rattle.trial_feed.proofs.Keeping.{advanced_within}
use Rattle.trial_feed.proofs.trial.Trial.advance.Goals as goal

pub returns-clause-within : goal.returns-clause-within
returns-clause-within c =
    subst (IsWithin (c.args.number + 1)) (sym c.change_feed.ensures) (advanced_within c.args.number _ c.requires.within)
