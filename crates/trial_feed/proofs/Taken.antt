-- The snapshots are a history.
use Rattle.std.proofs.Common.{◌≡◌, ℕ, zero, suc, ◌+◌, ◌<◌, ◌≤◌, None, length, refl, ap, arith}
use Rattle.std.specs.List.{AllByRecursion}
use Rattle.feed_codec.specs.Refusal.{refusal}
use Rattle.feed_codec.proofs.Roundtrips.{canonical_means_value, encoded_decodes}
use Rattle.feed_codec.proofs.SnapshotFaults.{refusal_is_first}
use Rattle.rule_history.specs.History.{IsTaken, IsHistory}
use Rattle.trial_feed.specs.Moving.{Moving, begun, advanced, IsWithin}
use Rattle.trial_feed.specs.Messages.{snapshot_value, snapshot_bytes}
use Rattle.trial_feed.specs.Snapshots.{snapshot_of, snapshots_from, trial_snapshots}
use Rattle.trial_feed.specs.Laws.{SnapshotsAreTaken}
use Rattle.trial_feed.proofs.Starts.{begun_within}
use Rattle.trial_feed.proofs.Keeping.{advanced_within}
use Rattle.trial_feed.proofs.Formed.{snapshot_formed}
use Rattle.trial_feed.proofs.Shortness.{snapshot_short}

is_accepted : (number : ℕ) (m : Moving) → number < 40 → IsWithin (number + 1) m → refusal (snapshot_bytes number m) ≡ None
unfolding snapshot_bytes
is_accepted number m few within =
    encoded_decodes.accepted (snapshot_value number m) (snapshot_formed number m few within) (omega (arith, snapshot_short number m few within))

is_taken : (number : ℕ) (m : Moving) → number < 40 → IsWithin (number + 1) m → IsTaken (snapshot_of number m)
unfolding snapshot_bytes
is_taken number m few within =
    let means = canonical_means_value.snapshot (snapshot_value number m) (snapshot_formed number m few within).message (omega (arith, snapshot_short number m few within)) in
    record {
      feed = omega arith;
      moment = omega arith;
      accepted = (refusal_is_first.accepted _ means.bytes_are).0 (is_accepted number m few within);
    }

all_taken : (left number : ℕ) (m : Moving) → number + left ≤ 40 → IsWithin number m → IsHistory (snapshots_from left number m)
unfolding snapshots_from
all_taken zero number m few within = tt
all_taken (suc left) number m few within =
    let next = advanced_within number m within in
    (is_taken number (advanced number m) (omega arith) next, all_taken left (number + 1) (advanced number m) (omega arith) next)

all_accepted : (left number : ℕ) (m : Moving) → number + left ≤ 40 → IsWithin number m
    → AllByRecursion (λ s. refusal s.bytes ≡ None) (snapshots_from left number m)
unfolding snapshots_from
all_accepted zero number m few within = tt
all_accepted (suc left) number m few within =
    let next = advanced_within number m within in
    (is_accepted number (advanced number m) (omega arith) next, all_accepted left (number + 1) (advanced number m) (omega arith) next)

all_counted : (left number : ℕ) (m : Moving) → length (snapshots_from left number m) ≡ left
unfolding snapshots_from
all_counted zero number m = refl
all_counted (suc left) number m = ap suc (all_counted left (number + 1) (advanced number m))

counted : (seed : ℕ) → length (trial_snapshots seed) ≡ 40
unfolding trial_snapshots
counted seed = all_counted 40 0 (begun seed)

history : (seed : ℕ) → IsHistory (trial_snapshots seed)
unfolding trial_snapshots
history seed = all_taken 40 0 (begun seed) (omega arith) (begun_within seed)

accepted : (seed : ℕ) → AllByRecursion (λ s. refusal s.bytes ≡ None) (trial_snapshots seed)
unfolding trial_snapshots
accepted seed = all_accepted 40 0 (begun seed) (omega arith) (begun_within seed)

pub snapshots_are_taken : SnapshotsAreTaken
snapshots_are_taken = record { count = counted; history = history; accepted = accepted; each = is_accepted }
