-- How changes keep the number of the entities, and how far they raise what moves of them.
use Rattle.std.proofs.Common.{◌≡◌, ℕ, zero, suc, ◌+◌, ◌-◌, ◌*◌, ◌%◌, ◌<◌, ◌≤◌, ◌==◌, nat_lt, true, false, if◌then◌else◌, List, [], ◌∷◌, length, set, get_or, refl, ap, ◌∙◌, add-zero, arith}
use Rattle.trial_feed.specs.declared.entity_state.EntityState.{EntityState}
use Rattle.trial_feed.specs.Draws.{next_state, drawn}
use Rattle.trial_feed.specs.Moving.{OneFeed, Moving, other, changed, changed_at, change_at, changes, moved, advanced, of_updates, of_positions, with_updates, with_positions, AllBelow, IsWithin}

-- ---- a change writes one place
pub set_is_changed : (k n : ℕ) (es : List EntityState) (d : EntityState) → k < length es
    → set es k (changed n (get_or es k d)) ≡ changed_at k n es
set_is_changed k n [] d within = absurd (omega arith)
set_is_changed zero n (e ∷ es) d within = refl
set_is_changed (suc k) n (e ∷ es) d within = ap (λ l. e ∷ l) (set_is_changed k n es d (omega arith))

pub length-changed_at : (k n : ℕ) (es : List EntityState) → length (changed_at k n es) ≡ length es
length-changed_at k n [] = refl
length-changed_at zero n (e ∷ es) = refl
length-changed_at (suc k) n (e ∷ es) = ap suc (length-changed_at k n es)

-- ---- limits
pub all_higher : (low high : ℕ) (es : List EntityState) → low ≤ high → AllBelow low es → AllBelow high es
all_higher low high [] le all = tt
all_higher low high (e ∷ es) le all = (omega (arith, all.0), all_higher low high es le all.1)

changed_below : (n limit : ℕ) (e : EntityState) → e.number < limit → (changed n e).number < limit + 1
changed_below n limit e below =
    elim (n == 0) as (λ t. (if t then record e { letter = other e.letter } else record e { number = e.number + 1 }).number < limit + 1) [ true ↦ omega arith | false ↦ omega arith ]

pub changed_at_below : (k n limit : ℕ) (es : List EntityState) → AllBelow limit es → AllBelow (limit + 1) (changed_at k n es)
changed_at_below k n limit [] all = tt
changed_at_below zero n limit (e ∷ es) all = (changed_below n limit e all.0, all_higher limit (limit + 1) es (omega arith) all.1)
changed_at_below (suc k) n limit (e ∷ es) all = (omega (arith, all.0), changed_at_below k n limit es all.1)

-- ---- many changes
changes_suc : (left k : ℕ) (feed : OneFeed) → changes (suc left) k feed ≡ changes left (k + 1) (change_at (k % 2000) feed)
unfolding changes
changes_suc left k feed = refl

pub no_changes : (k : ℕ) (feed : OneFeed) → changes 0 k feed ≡ feed
unfolding changes
no_changes k feed = refl

pub one_change : (j first : ℕ) (feed : OneFeed) → j < 20
    → changes (20 - j) (first + j) feed ≡ changes (20 - (j + 1)) (first + (j + 1)) (change_at ((first + j) % 2000) feed)
one_change j first feed more =
    let left : 20 - j ≡ suc (20 - (j + 1)) = omega arith in
    let next : first + j + 1 ≡ first + (j + 1) = omega arith in
    ap (λ n. changes n (first + j) feed) left ∙ changes_suc (20 - (j + 1)) (first + j) feed
    ∙ ap (λ k. changes (20 - (j + 1)) k (change_at ((first + j) % 2000) feed)) next

changes_below : (left k limit : ℕ) (feed : OneFeed) → AllBelow limit feed.entities → AllBelow (limit + left) (changes left k feed).entities
unfolding changes
changes_below zero k limit feed all = rw add-zero all
changes_below (suc left) k limit feed all =
    all_higher (limit + 1 + left) (limit + suc left) _ (omega arith)
    (changes_below left (k + 1) (limit + 1) (change_at (k % 2000) feed) (changed_at_below (k % 2000) (drawn 4 (next_state feed.state)) limit feed.entities all))

changes_length : (left k : ℕ) (feed : OneFeed) → length (changes left k feed).entities ≡ length feed.entities
unfolding changes
changes_length zero k feed = refl
changes_length (suc left) k feed =
    changes_length left (k + 1) (change_at (k % 2000) feed) ∙ length-changed_at (k % 2000) (drawn 4 (next_state feed.state)) feed.entities

pub moved_length : (feed : OneFeed) → length (moved feed).entities ≡ length feed.entities
unfolding moved
moved_length feed = changes_length 20 (drawn 2000 (next_state feed.state)) (record feed { state = next_state feed.state })

-- before a snapshot no number rises by more than 20
pub moved_below : (limit : ℕ) (feed : OneFeed) → AllBelow limit feed.entities → AllBelow (limit + 20) (moved feed).entities
unfolding moved
moved_below limit feed all = changes_below 20 (drawn 2000 (next_state feed.state)) limit (record feed { state = next_state feed.state }) all

-- ---- both feeds
still_within : (number : ℕ) (m : Moving) → IsWithin number m → IsWithin (number + 1) m
still_within number m within = record {
  updates_whole = within.updates_whole;
  positions_whole = within.positions_whole;
  updates = all_higher (600 + 20 * number) (600 + 20 * (number + 1)) m.updates (omega arith) within.updates;
  positions = all_higher (600 + 20 * number) (600 + 20 * (number + 1)) m.positions (omega arith) within.positions;
}

updates_within : (number : ℕ) (m : Moving) → IsWithin number m → IsWithin (number + 1) (with_updates m (moved (of_updates m)))
updates_within number m within = record {
  updates_whole = moved_length (of_updates m) ∙ within.updates_whole;
  positions_whole = within.positions_whole;
  updates = all_higher (600 + 20 * number + 20) (600 + 20 * (number + 1)) _ (omega arith) (moved_below (600 + 20 * number) (of_updates m) within.updates);
  positions = all_higher (600 + 20 * number) (600 + 20 * (number + 1)) m.positions (omega arith) within.positions;
}

positions_within : (number : ℕ) (m : Moving) → IsWithin number m → IsWithin (number + 1) (with_positions m (moved (of_positions m)))
positions_within number m within = record {
  updates_whole = within.updates_whole;
  positions_whole = moved_length (of_positions m) ∙ within.positions_whole;
  updates = all_higher (600 + 20 * number) (600 + 20 * (number + 1)) m.updates (omega arith) within.updates;
  positions = all_higher (600 + 20 * number + 20) (600 + 20 * (number + 1)) _ (omega arith) (moved_below (600 + 20 * number) (of_positions m) within.positions);
}

pub advanced_within : (number : ℕ) (m : Moving) → IsWithin number m → IsWithin (number + 1) (advanced number m)
advanced_within number m within =
    elim (nat_lt number 2) as (λ t. IsWithin (number + 1) (if t then m else
    if number % 2 == 0 then with_updates m (moved (of_updates m)) else with_positions m (moved (of_positions m)))) [
      | true ↦ still_within number m within
      | false ↦ elim (number % 2 == 0) as (λ t. IsWithin (number + 1) (if t then with_updates m (moved (of_updates m)) else with_positions m (moved (of_positions m)))) [
        | true ↦ updates_within number m within
        | false ↦ positions_within number m within
      ]
    ]
