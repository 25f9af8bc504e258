use Rattle.std.proofs.Common.{◌≡◌, ◌≤◌, ◌<◌, ◌-◌, ℕ, get_or, length, false}
use Rattle.rt_day.specs.Time.{is_colon}
use Rattle.rt_day.proofs.time.colon_in.Given as goal

-- no byte before the place is a colon
abbrev pub invariant-loop-place : goal.invariant-loop-place
invariant-loop-place l = record {
  within : l.place ≤ length l.text;
  fails : (k : ℕ) → k < l.place → is_colon (get_or l.text k 0) ≡ false;
}

abbrev pub decreases-loop-place : goal.decreases-loop-place
decreases-loop-place l = length l.text - l.place
