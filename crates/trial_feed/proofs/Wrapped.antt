-- The next state, as the wrapping product and sum give it.
use Rattle.std.proofs.Common.{◌≡◌, ℕ, ◌+◌, ◌*◌, ◌%◌, ◌^◌}
use Rattle.std.proofs.Math.Nat.{mod-add-mod}
use Rattle.trial_feed.specs.Draws.{next_state}

pub wrapped_state : (x : ℕ) → (x * 6364136223846793005 % 2 ^ 64 + 1442695040888963407) % 2 ^ 64 ≡ next_state x
unfolding next_state
wrapped_state x = mod-add-mod (x * 6364136223846793005) (2 ^ 64) 1442695040888963407
