-- Parts can be judged under the keys that a snapshot touches: entities are there, and their lists are in order.
use Rattle.std.specs.Prelude.{◌≡◌, ℕ, zero, suc, ◌<◌, ◌==◌, ◌&&◌, ◌||◌, not, Bool, true, false, List, Option, Some, None, option_map, is_some, unwrap_or, refl}
use Rattle.std.proofs.Common.{sym, ap, ◌∙◌, subst}
use Rattle.std.proofs.Math.Bool.{and-false}
use Rattle.std.proofs.lemmas.Bool.{true≢false}
use Rattle.feed_values.specs.Snapshot.{entity_of}
use Rattle.timetable.specs.Timetables.{Tables}
use Rattle.rule_table.specs.declared.key.EntityKey.{EntityKey}
use Rattle.rule_history.specs.History.{Snapshot, IsTaken}
use Rattle.rule_history.specs.Changed.{is_paired, keeps_bounds}
use Rattle.engine_laws.specs.HeldFeeds.{HeldFeed, peaks_after, rows_held}
use Rattle.engine_laws.specs.Order.{found_cmp, Rises}
use Rattle.touched_entities.specs.part_laws.Touched.{is_among}
use Rattle.touched_entities.specs.standing_walks.Walked.{IsInOrder}
use Rattle.touched_entities.specs.entity_index.Held.{HeldEntities}
use Rattle.touched_entities.specs.entity_index.Lists.{Lists, list_of, no_lists}
use Rattle.touched_entities.specs.entity_parts.Found.{local_found, paired_found}
use Rattle.touched_entities.specs.entity_parts.Rising.{local_rises, paired_rises, peaked_rises}
use Rattle.row_changes.specs.Given.{rows_under}
use Rattle.row_changes.specs.Held.{entity_at}
use Rattle.row_changes.specs.Touched.{gives_later}
use Rattle.touched_entities.specs.Again.{list_under, lists_under, payload_at}
use Rattle.touched_entities.specs.Exchanged.{IsExchanged}
use Rattle.touched_entities.proofs.Fresh.{fresh_far, fresh_none}
use Rattle.cached_laws.specs.State.{State, IsState, feed_of}
use Rattle.cached_laws.specs.Cached.{AreCached, bounded_in, peaked_in}
use Rattle.cached_laws.specs.Keys.{AreTouched, bytes_before, is_fresh_key, is_over_then, is_paired_then, is_peaked_then, gives_moved, lasts_then}
use Rattle.cached_laws.specs.Judged.{CanBePassed}
use Rattle.cached_laws.proofs.Bounds.{entity_then}
use Rattle.cached_laws.proofs.Placed.{by_feed, lists_placed, payload_here, then_payload}
use Rattle.cached_laws.proofs.Step.{by_rises, found_rises}

-- what is cached is in order
pub in_order_held : (t : Option Tables) (index : List HeldEntities) (feeds : ℕ → HeldFeed) → AreCached t index feeds → (k : EntityKey) (part : ℕ) → IsInOrder (list_under index k part)
in_order_held t index feeds cached k zero = subst (Rises found_cmp) (sym (cached.local_are k)) (found_rises (local_found t) (local_rises t) k (payload_at index k))
in_order_held t index feeds cached k (suc zero) = subst (Rises found_cmp) (sym (cached.paired_are k)) (found_rises (paired_found (rows_held feeds)) (paired_rises (rows_held feeds)) k (payload_at index k))
in_order_held t index feeds cached k (suc (suc zero)) = subst (Rises found_cmp) (sym (cached.bounded_are k)) (found_rises (bounded_in feeds) (λ q e. by_rises (feeds q.feed).last q e) k (payload_at index k))
in_order_held t index feeds cached k (suc (suc (suc n))) = subst (Rises found_cmp) (sym (cached.peaked_are k)) (found_rises (peaked_in feeds) (peaked_rises (λ f. (feeds f).peaks)) k (payload_at index k))

module _ (t : Option Tables) (state : State) (s : Snapshot) (is : IsState state) (taken : IsTaken s) (fits : s.feed < 16) (cached : AreCached t state.index (feed_of state))
    (local paired bounded peaked : List EntityKey) (touched : AreTouched state s local paired bounded peaked) (first : List HeldEntities) (placed : IsExchanged s.feed s.bytes state.index first) where
  some_or : (o : Option (List ℕ)) → (o ≡ None → ⊥) → is_some o ≡ true
  some_or None h = absurd (h refl)
  some_or (Some p) h = refl

  fresh_there : (k : EntityKey) → is_fresh_key state s k ≡ true → payload_at first k ≡ None → ⊥
  fresh_there k h none = by_feed state s is first placed k
      (λ q. absurd (true≢false (sym h ∙ fresh_none s.feed (bytes_before state s.feed) s.bytes k (sym (payload_here state s is first placed k q) ∙ none))))
      (λ q. absurd (true≢false (sym h ∙ fresh_far s.feed (bytes_before state s.feed) s.bytes k q)))

  none_then : (k : EntityKey) → payload_at first k ≡ None → entity_at (lasts_then s (feed_of state)) k ≡ None
  none_then k none = entity_then state s is taken fits k ∙ ap (option_map entity_of) (then_payload state s is first placed k ∙ none)

  paired_there : (k : EntityKey) → is_paired_then state s k ≡ true → payload_at first k ≡ None → ⊥
  paired_there k h none = absurd (true≢false (sym h ∙ ap (λ o. is_paired (rows_held (feed_of state)) (rows_held (lasts_then s (feed_of state))) (rows_under k o)) (none_then k none)))

  over_there : (k : EntityKey) (bound : Option ℕ) → is_over_then state s bound k ≡ true → payload_at first k ≡ None → ⊥
  over_there k None h none = absurd (true≢false (sym h))
  over_there k (Some b) h none = absurd (true≢false (sym h ∙ ap (λ o. (k.feed == s.feed) && gives_later b o) (none_then k none) ∙ and-false (k.feed == s.feed)))

  choose : (a b : Bool) → (a ≡ true → ⊥) → (b ≡ true → ⊥) → (a || b) ≡ true → ⊥
  choose true b p q h = p refl
  choose false b p q h = q h

  second : (a b : Bool) → (b ≡ true → ⊥) → (a && b) ≡ true → ⊥
  second true b q h = q h
  second false b q h = absurd (true≢false (sym h))

  bounded_there : (k : EntityKey) → is_among bounded k ≡ true → payload_at first k ≡ None → ⊥
  bounded_there k m none =
      choose (is_fresh_key state s k) _ (λ h. fresh_there k h none)
      (second (not (keeps_bounds s (feed_of state s.feed).last)) _ (choose (is_over_then state s touched.bounded_are.before k) (is_over_then state s (Some touched.bounded_are.now) k)
      (λ h. over_there k touched.bounded_are.before h none) (λ h. over_there k (Some touched.bounded_are.now) h none)))
      (sym (touched.bounded_are.keys_are.among k) ∙ m)

  peaked_there : (k : EntityKey) → is_peaked_then state s k ≡ true → payload_at first k ≡ None → ⊥
  peaked_there k h none =
      absurd (true≢false (sym h ∙ ap (λ o. (k.feed == s.feed) && gives_moved (feed_of state s.feed).peaks (peaks_after s (feed_of state) s.feed) o) (none_then k none) ∙ and-false (k.feed == s.feed)))

  ordered_first : (k : EntityKey) (part : ℕ) → IsInOrder (list_under first k part)
  ordered_first k part = subst (λ (x : Option Lists). IsInOrder (list_of (unwrap_or x no_lists) part)) (sym (lists_placed state s is first placed k)) (go (payload_at first k))
    where
      nothing : (part : ℕ) → IsInOrder (list_of no_lists part)
      nothing zero = tt
      nothing (suc zero) = tt
      nothing (suc (suc zero)) = tt
      nothing (suc (suc (suc n))) = tt

      go : (o : Option (List ℕ)) → IsInOrder (list_of (unwrap_or (option_map (λ p. lists_under state.index k) o) no_lists) part)
      go None = nothing part
      go (Some p) = in_order_held t state.index (feed_of state) cached k part

  pub can_pass : CanBePassed first local paired bounded peaked
  can_pass = record {
    local_rise = touched.local_are.rise;
    paired_rise = touched.paired_are.rise;
    bounded_rise = touched.bounded_are.keys_are.rise;
    peaked_rise = touched.peaked_are.rise;
    local_held = λ k m. some_or (payload_at first k) (fresh_there k (sym (touched.local_are.among k) ∙ m));
    paired_held = λ k m. some_or (payload_at first k) (λ none. choose (is_fresh_key state s k) (is_paired_then state s k) (λ h. fresh_there k h none) (λ h. paired_there k h none) (sym (touched.paired_are.among k) ∙ m));
    bounded_held = λ k m. some_or (payload_at first k) (bounded_there k m);
    peaked_held = λ k m. some_or (payload_at first k) (λ none. choose (is_fresh_key state s k) (is_peaked_then state s k) (λ h. fresh_there k h none) (λ h. peaked_there k h none) (sym (touched.peaked_are.among k) ∙ m));
    ordered = ordered_first;
  }
