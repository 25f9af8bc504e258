-- Numbers drawn one after the other from a state of 64 bits: a linear congruential generator, whose multiplier and increment are
-- those of Knuth's MMIX. (This profile.)
use Rattle.std.specs.Prelude.{◌≡◌, ℕ, ◌+◌, ◌*◌, ◌/◌, ◌%◌, ◌^◌, refl}

-- the state after a state
unfoldable pub next_state : ℕ → ℕ
next_state x = (x * 6364136223846793005 + 1442695040888963407) % 2 ^ 64

-- The number below k that a state gives, from its high bits: the low ones repeat early.
unfoldable pub drawn : ℕ → ℕ → ℕ
drawn k x = (x / 2 ^ 33) % k

-- the first draws from 7, as another program has them
pub first_state : next_state 7 ≡ 9098160460397411210
unfolding next_state
first_state = refl

pub first_number : drawn 2000 9098160460397411210 ≡ 1278
unfolding drawn
first_number = refl

pub second_state : next_state 9098160460397411210 ≡ 17628806926561717905
unfolding next_state
second_state = refl

pub second_number : drawn 4 17628806926561717905 ≡ 3
unfolding drawn
second_number = refl
