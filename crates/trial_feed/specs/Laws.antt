-- What is so of the snapshots of every seed.
use Rattle.std.specs.Prelude.{◌≡◌, ℕ, ◌+◌, ◌<◌, None, length}
use Rattle.std.specs.List.{AllByRecursion}
use Rattle.feed_codec.specs.Refusal.{refusal}
use Rattle.rule_history.specs.History.{IsHistory}
use Rattle.trial_feed.specs.Moving.{Moving, IsWithin}
use Rattle.trial_feed.specs.Messages.{snapshot_bytes}
use Rattle.trial_feed.specs.Snapshots.{trial_snapshots}

-- There are 40, none of them is refused, and together they are a history; so is each one that can be shown.
pub record SnapshotsAreTaken : Type 0 where
  pub count : (seed : ℕ) → length (trial_snapshots seed) ≡ 40
  pub history : (seed : ℕ) → IsHistory (trial_snapshots seed)
  pub accepted : (seed : ℕ) → AllByRecursion (λ s. refusal s.bytes ≡ None) (trial_snapshots seed)
  pub each : (number : ℕ) (m : Moving) → number < 40 → IsWithin (number + 1) m → refusal (snapshot_bytes number m) ≡ None
