-- The entities at the start.
use Rattle.std.proofs.Common.{◌≡◌, ℕ, zero, suc, ◌+◌, ◌%◌, ◌<◌, ◌==◌, true, false, if◌then◌else◌, List, [], ◌∷◌, ◌++◌, length, map, refl, arith}
use Rattle.std.proofs.lemmas.List.FromFn.{map-range_with_len_more, length-map-range_with_len}
use Rattle.std.specs.List.{range_with_len}
use Rattle.trial_feed.specs.declared.entity_state.EntityState.{EntityState}
use Rattle.trial_feed.specs.Moving.{first_state, first_states, begun, AllBelow, IsWithin}

pub no_state : (feed : ℕ) → first_states feed 0 ≡ []
unfolding first_states
no_state feed = refl

pub one_state : (feed k : ℕ) → first_states feed (k + 1) ≡ first_states feed k ++ first_state feed k ∷ []
unfolding first_states
one_state feed k = map-range_with_len_more (first_state feed) 0 k k (omega arith)

state_below : (feed k : ℕ) → (first_state feed k).number < 600
state_below feed k = elim (feed == 0) as (λ t. (if t then k % 600 else 1) < 600) [ true ↦ omega arith | false ↦ omega arith ]

states_below : (feed a n : ℕ) → AllBelow 600 (map (first_state feed) (range_with_len a n))
states_below feed a zero = tt
states_below feed a (suc n) = (state_below feed a, states_below feed (a + 1) n)

pub first_below : (feed n : ℕ) → AllBelow 600 (first_states feed n)
unfolding first_states
first_below feed n = states_below feed 0 n

pub length-first_states : (feed n : ℕ) → length (first_states feed n) ≡ n
unfolding first_states
length-first_states feed n = length-map-range_with_len (first_state feed) 0 n

pub begun_within : (seed : ℕ) → IsWithin 0 (begun seed)
unfolding begun
begun_within seed = record {
  updates_whole = length-first_states 0 2000;
  positions_whole = length-first_states 1 2000;
  updates = first_below 0 2000;
  positions = first_below 1 2000;
}

pub begun_is : (seed : ℕ) (updates positions : List EntityState) → updates ≡ first_states 0 2000 → positions ≡ first_states 1 2000
    → record { state = seed; updates = updates; positions = positions } ≡ begun seed
unfolding begun
begun_is seed updates positions u p = λ i. record { state = seed; updates = u i; positions = p i }
