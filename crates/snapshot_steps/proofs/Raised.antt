-- The keys of entities whose vehicle has another peak once a snapshot came.
use Rattle.std.specs.Prelude.{◌≡◌, ℕ, ◌<◌, ◌==◌, not, ◌&&◌, ◌||◌, Bool, true, false, cond, List, Option, Some, None, option_map, is_none, refl}
use Rattle.std.proofs.Common.{sym, ap, ◌∙◌, subst, eq-eqb}
use Rattle.std.proofs.Math.Path.{fun_ext}
use Rattle.std.proofs.Math.Bool.{and-false}
use borrow.Author.Tests.{eqb-true}
use Rattle.feed_values.specs.Snapshot.{entity_of}
use Rattle.rule_table.specs.declared.key.EntityKey.{EntityKey}
use Rattle.rule_table.specs.Peaks.{greater, vehicle_id_of}
use Rattle.rule_history.specs.History.{Snapshot, Keyed, IsTaken, entities_in, entities_of_snapshot}
use Rattle.rule_history.specs.Answered.{payload_under}
use Rattle.rule_history.specs.Changed.{has_moved}
use Rattle.rule_history.specs.Peaks.{FeedPeaks, raised_by}
use Rattle.rule_history.proofs.SameSnapshots.{same_payload}
use Rattle.engine_laws.specs.HeldFeeds.{HeldFeed, peaks_after}
use Rattle.held_feeds.specs.part_laws.Touched.{is_among}
use Rattle.held_feeds.specs.part_laws.StaysProofs.{other_way}
use Rattle.history_rules.specs.HeldPeaks.{peak_of}
use Rattle.held_feeds.specs.entity_index.Changes.{gone_keys}
use Rattle.held_feeds.specs.entity_index.Held.{entities_before}
use Rattle.held_feeds.specs.row_changes.Held.{entity_at}
use Rattle.held_feeds.specs.touched_entities.FreshProofs.{fresh_is, none_far}
use Rattle.vehicle_peaks.specs.Rises.{AreRises, RisesById, gives_rise, rise_of, with_rises}
use Rattle.vehicle_peaks.proofs.Peaks.{rises-move, rises-raise}
use Rattle.held_feeds.specs.cached_laws.State.{State, IsState, feed_of}
use Rattle.held_feeds.specs.cached_laws.Keys.{bytes_before, gives_moved, is_fresh_key, is_peaked_then, lasts_then}
use Rattle.held_feeds.specs.cached_laws.BoundsProofs.{entities_are, entity_then}
use Rattle.held_feeds.specs.cached_laws.GoneProofs.{feed_before, gone_some}

module _ (state : State) (s : Snapshot) (is : IsState state) (taken : IsTaken s) (fits : s.feed < 16) (rises : RisesById) (are : AreRises (entities_before s.feed (bytes_before state s.feed)) (peak_of state.peaks s.feed) rises) where
  abbrev old : HeldFeed
  old = feed_of state s.feed

  are_last : AreRises (entities_of_snapshot old.last) old.peaks rises
  are_last = subst (λ (es : List Keyed). AreRises es old.peaks rises) (sym (entities_are state s.feed)) are

  -- the peaks once it came are those that are raised
  pub peaks_then : (f : ℕ) (vehicle : List ℕ) → with_rises rises s.feed (peak_of state.peaks) f vehicle ≡ peaks_after s (feed_of state) f vehicle
  peaks_then f vehicle = either (s.feed == f) refl
    where
      either : (b : Bool) → (s.feed == f) ≡ b → with_rises rises s.feed (peak_of state.peaks) f vehicle ≡ peaks_after s (feed_of state) f vehicle
      either true e = subst (λ g. with_rises rises s.feed (peak_of state.peaks) g vehicle ≡ peaks_after s (feed_of state) g vehicle) (eqb-true s.feed f e) here
        where
          here : with_rises rises s.feed (peak_of state.peaks) s.feed vehicle ≡ peaks_after s (feed_of state) s.feed vehicle
          here =
              ap (λ b. cond b (greater (rise_of rises vehicle) (peak_of state.peaks s.feed vehicle)) (peak_of state.peaks s.feed vehicle)) (eq-eqb s.feed s.feed refl)
              ∙ rises-raise old.last old.peaks rises are_last vehicle
              ∙ sym (ap (λ b. cond b (raised_by old.last old.peaks vehicle) (old.peaks vehicle)) (eq-eqb s.feed s.feed refl))
      either false e =
          ap (λ b. cond b (greater (rise_of rises vehicle) (peak_of state.peaks f vehicle)) (peak_of state.peaks f vehicle)) e
          ∙ sym (ap (λ b. cond b (raised_by (feed_of state f).last (feed_of state f).peaks vehicle) ((feed_of state f).peaks vehicle)) e)

  peaks_here : peaks_after s (feed_of state) s.feed ≡ raised_by old.last old.peaks
  peaks_here = fun_ext (λ vehicle. ap (λ b. cond b (raised_by old.last old.peaks vehicle) (old.peaks vehicle)) (eq-eqb s.feed s.feed refl))

  -- ---- the keys
  abbrev gone : EntityKey → Bool
  gone key = is_among (gone_keys s.feed (bytes_before state s.feed) s.bytes) key

  abbrev was : EntityKey → Option (List ℕ)
  was key = payload_under key (entities_before s.feed (bytes_before state s.feed))

  abbrev now : EntityKey → Option (List ℕ)
  now key = payload_under key (entities_in s.feed s.bytes)

  moved_by : EntityKey → Option (List ℕ) → Bool
  moved_by key o = key.feed == s.feed && gives_moved old.peaks (peaks_after s (feed_of state) s.feed) (option_map entity_of o)

  then_here : (key : EntityKey) → (s.feed == key.feed) ≡ true → is_peaked_then state s key ≡ gives_moved old.peaks (peaks_after s (feed_of state) s.feed) (option_map entity_of (now key))
  then_here key e =
      ap (λ b. b && gives_moved old.peaks (peaks_after s (feed_of state) s.feed) (entity_at (lasts_then s (feed_of state)) key)) (eq-eqb key.feed s.feed (sym (eqb-true s.feed key.feed e)))
      ∙ ap (gives_moved old.peaks (peaks_after s (feed_of state) s.feed))
      (entity_then state s is taken fits key ∙ ap (λ b. option_map entity_of (payload_under key (entities_of_snapshot (cond b (Some s) (feed_of state key.feed).last)))) e)

  -- where an entity isn't fresh
  pub peaked_beside : (key : EntityKey) → is_fresh_key state s key ≡ false → (not (gone key) && gives_rise rises (was key)) ≡ is_peaked_then state s key
  peaked_beside key stays = either (s.feed == key.feed) refl
    where
      either : (b : Bool) → (s.feed == key.feed) ≡ b → (not (gone key) && gives_rise rises (was key)) ≡ is_peaked_then state s key
      either true e = there (now key) refl ∙ sym (then_here key e)
        where
          there : (o : Option (List ℕ)) → now key ≡ o → (not (gone key) && gives_rise rises (was key)) ≡ gives_moved old.peaks (peaks_after s (feed_of state) s.feed) (option_map entity_of (now key))
          there None n = left (was key) refl ∙ sym (ap (λ (x : Option (List ℕ)). gives_moved old.peaks (peaks_after s (feed_of state) s.feed) (option_map entity_of x)) n)
            where
              left : (w : Option (List ℕ)) → was key ≡ w → (not (gone key) && gives_rise rises (was key)) ≡ false
              left None q = ap (λ (x : Option (List ℕ)). not (gone key) && gives_rise rises x) q ∙ and-false (not (gone key))
              left (Some p) q = ap (λ b. not b && gives_rise rises (was key)) (gone_some s.feed (bytes_before state s.feed) s.bytes key p q ∙ ap is_none n)
          there (Some p) n =
              let held : was key ≡ Some p = same_payload p (was key) (sym (fresh_is s.feed (bytes_before state s.feed) s.bytes key p n) ∙ stays) in
              ap (λ b. not b && gives_rise rises (was key)) (gone_some s.feed (bytes_before state s.feed) s.bytes key p held ∙ ap is_none n)
              ∙ ap (gives_rise rises) held
              ∙ rises-move old.last old.peaks rises are_last (vehicle_id_of (entity_of p))
              ∙ ap (λ (u : FeedPeaks). has_moved old.peaks u (vehicle_id_of (entity_of p))) (sym peaks_here)
              ∙ sym (ap (λ (x : Option (List ℕ)). gives_moved old.peaks (peaks_after s (feed_of state) s.feed) (option_map entity_of x)) n)
      either false e =
          ap (λ (x : Option (List ℕ)). not (gone key) && gives_rise rises x) (none_far s.feed key (entities_before s.feed (bytes_before state s.feed)) (feed_before s.feed (bytes_before state s.feed)) e)
          ∙ and-false (not (gone key))
          ∙ sym (ap (λ b. b && gives_moved old.peaks (peaks_after s (feed_of state) s.feed) (entity_at (lasts_then s (feed_of state)) key)) (other_way s.feed key.feed e))

  pub peaked_keys : (key : EntityKey) (raised : Bool) → raised ≡ (not (gone key) && (not (is_fresh_key state s key) && gives_rise rises (was key))) → (is_fresh_key state s key || raised) ≡ (is_fresh_key state s key || is_peaked_then state s key)
  peaked_keys key raised is_raised = either (is_fresh_key state s key) refl
    where
      either : (b : Bool) → is_fresh_key state s key ≡ b → (is_fresh_key state s key || raised) ≡ (is_fresh_key state s key || is_peaked_then state s key)
      either true e = ap (λ b. b || raised) e ∙ sym (ap (λ b. b || is_peaked_then state s key) e)
      either false e = ap (λ b. is_fresh_key state s key || b) (is_raised ∙ ap (λ b. not (gone key) && (not b && gives_rise rises (was key))) e ∙ peaked_beside key e)
