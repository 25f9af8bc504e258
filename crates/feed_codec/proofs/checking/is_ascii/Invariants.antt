use Rattle.std.proofs.Common.{◌≤◌, ◌<◌, ◌-◌, ℕ, get_or, length}
use Rattle.feed_codec.proofs.checking.is_ascii.Given as goal

-- the bytes before the place are ASCII
abbrev pub invariant-loop-place : goal.invariant-loop-place
invariant-loop-place l = record {
  within : l.place ≤ length l.text;
  ascii : (i : ℕ) → i < l.place → get_or l.text i 0 < 128;
}

abbrev pub decreases-loop-place : goal.decreases-loop-place
decreases-loop-place l = length l.text - l.place
