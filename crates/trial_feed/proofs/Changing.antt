-- What stands while the entities of a feed change one after the other.
use Rattle.std.proofs.Common.{◌≡◌, ℕ, ◌+◌, ◌-◌, ◌%◌, ◌<◌, ◌≤◌, ◌^◌, List, length, set, get_or, refl, ap, sym, subst, ◌∙◌, add-zero, arith}
use Rattle.std.proofs.lemmas.Nat.{mod_below}
use Rattle.trial_feed.specs.declared.entity_state.EntityState.{EntityState}
use Rattle.trial_feed.specs.Draws.{next_state, drawn}
use Rattle.trial_feed.specs.Moving.{OneFeed, changed, changed_at, change_at, changes, moved, AllBelow}
use Rattle.trial_feed.proofs.Keeping.{set_is_changed, length-changed_at, changed_at_below, all_higher, one_change, no_changes}

-- j changes are done, and those left make the feed what it is after all of them
pub record Changing (first j state : ℕ) (entities : List EntityState) (before : OneFeed) : Type 0 where
  pub place : first < 2000
  pub whole : length entities ≡ 2000
  pub small : AllBelow (2 ^ 31 + j) entities
  pub rest : changes (20 - j) (first + j) (record { state = state; entities = entities }) ≡ moved before

moved_from : (state : ℕ) (es : List EntityState)
    → changes 20 (drawn 2000 (next_state state)) (record { state = next_state state; entities = es }) ≡ moved (record { state = state; entities = es })
unfolding moved
moved_from state es = refl

pub changing_starts : (state first new : ℕ) (es : List EntityState) → new ≡ next_state state → first ≡ drawn 2000 new → first < 2000
    → length es ≡ 2000 → AllBelow (2 ^ 31) es → Changing first 0 new es (record { state = state; entities = es })
changing_starts state first new es next is place whole small = record {
  place = place;
  whole = whole;
  small = small;
  rest =
      rw add-zero (
      ap (λ k. changes 20 k (record { state = new; entities = es })) is
      ∙ ap (λ x. changes 20 (drawn 2000 x) (record { state = x; entities = es })) next
      ∙ moved_from state es
      );
}

pub changing_goes : (first j state new n : ℕ) (es : List EntityState) (e d : EntityState) (before : OneFeed)
    → Changing first j state es before → j < 20 → new ≡ next_state state → n ≡ drawn 4 new
    → e ≡ changed n (get_or es ((first + j) % 2000) d)
    → Changing first (j + 1) new (set es ((first + j) % 2000) e) before
changing_goes first j state new n es e d before so more next is made =
    let k : ℕ = (first + j) % 2000 in
    let within : k < length es = rw so.whole (mod_below (first + j) 2000 (omega arith)) in
    let wrote : set es k e ≡ changed_at k (drawn 4 (next_state state)) es =
    ap (λ x. set es k x) (made ∙ ap (λ m. changed m (get_or es k d)) (is ∙ ap (λ x. drawn 4 x) next))
    ∙ set_is_changed k (drawn 4 (next_state state)) es d within in
    let after : record { state = new; entities = set es k e } ≡ change_at k (record { state = state; entities = es }) =
    λ i. record { state = next i; entities = wrote i } in
    record {
      place = so.place;
      whole = ap length wrote ∙ length-changed_at k (drawn 4 (next_state state)) es ∙ so.whole;
      small =
          subst (λ l. AllBelow (2 ^ 31 + (j + 1)) l) (sym wrote)
          (all_higher (2 ^ 31 + j + 1) (2 ^ 31 + (j + 1)) _ (omega arith) (changed_at_below k (drawn 4 (next_state state)) (2 ^ 31 + j) es so.small));
      rest =
          ap (λ f. changes (20 - (j + 1)) (first + (j + 1)) f) after
          ∙ sym (one_change j first (record { state = state; entities = es }) more)
          ∙ so.rest;
    }

pub changing_ends : (first j state : ℕ) (es : List EntityState) (before : OneFeed)
    → Changing first j state es before → 20 ≤ j → record { state = state; entities = es } ≡ moved before
changing_ends first j state es before so end =
    let none : 20 - j ≡ 0 = omega arith in
    sym (no_changes (first + j) (record { state = state; entities = es }))
    ∙ ap (λ n. changes n (first + j) (record { state = state; entities = es })) (sym none)
    ∙ so.rest
