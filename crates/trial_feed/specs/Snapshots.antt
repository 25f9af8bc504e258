-- The snapshots of the trial, one after the other. (This profile.)
use Rattle.std.specs.Prelude.{◌≡◌, ℕ, zero, suc, ◌+◌, List, [], ◌∷◌, refl}
use Rattle.rule_history.specs.History.{Snapshot}
use Rattle.trial_feed.specs.Moving.{Moving, begun, advanced}
use Rattle.trial_feed.specs.Messages.{feed_of, moment_of, snapshot_bytes}

-- snapshot `number`, where m is what it shows
abbrev pub snapshot_of : ℕ → Moving → Snapshot
snapshot_of number m = record { feed = feed_of number; moment = moment_of number; bytes = snapshot_bytes number m }

-- so many snapshots, from `number` on, where m is what the one before shows
unfoldable pub snapshots_from : (left number : ℕ) → Moving → List Snapshot
snapshots_from zero number m = []
snapshots_from (suc left) number m = snapshot_of number (advanced number m) ∷ snapshots_from left (number + 1) (advanced number m)

-- all 40, from a seed
unfoldable pub trial_snapshots : ℕ → List Snapshot
trial_snapshots seed = snapshots_from 40 0 (begun seed)

-- ---- the same as equations
pub no_snapshots : (number : ℕ) (m : Moving) → snapshots_from 0 number m ≡ []
unfolding snapshots_from
no_snapshots number m = refl

pub first_snapshot : (left number : ℕ) (m : Moving)
    → snapshots_from (suc left) number m ≡ snapshot_of number (advanced number m) ∷ snapshots_from left (number + 1) (advanced number m)
unfolding snapshots_from
first_snapshot left number m = refl

pub all_snapshots : (seed : ℕ) → trial_snapshots seed ≡ snapshots_from 40 0 (begun seed)
unfolding trial_snapshots
all_snapshots seed = refl
