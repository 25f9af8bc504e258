-- Entities judged again with another timetable: what is under their keys then, and that each list has what its part finds.
use Rattle.std.specs.Prelude.{◌≡◌, ℕ, Bool, true, false, List, [], Option, Some, None, option_map, is_some, unwrap_or, refl}
use Rattle.std.proofs.Common.{sym, ap, ◌∙◌, subst}
use Rattle.feed_values.specs.Snapshot.{entity_of}
use Rattle.timetable.specs.Timetables.{Tables}
use Rattle.rule_table.specs.declared.key.EntityKey.{EntityKey}
use Rattle.rule_table.specs.Found.{Found}
use Rattle.rule_history.specs.Answered.{rows_in}
use Rattle.rule_history.specs.History.{entities_of_snapshot, feed_limit}
use Rattle.rule_history.specs.Standing.{Standing}
use Rattle.engine_laws.specs.HeldFeeds.{HeldFeed, rows_held}
use Rattle.engine_laws.specs.Order.{found_cmp, Rises}
use Rattle.engine_laws.specs.Standings.{findings_of, renewed}
use Rattle.engine_laws.proofs.Lists.{below-same}
use Rattle.engine_laws.proofs.Next.{renewed-itself}
use Rattle.engine_laws.proofs.Since.{findings-renewed}
use Rattle.taken_snapshots.specs.cached_laws.part_laws.Touched.{is_among}
use Rattle.taken_snapshots.specs.cached_laws.State.{State, IsState, feed_of, header_at, snapshot_with}
use Rattle.taken_snapshots.specs.cached_laws.Cached.{AreCached, bounded_by, bounded_in, peaked_in}
use Rattle.taken_snapshots.specs.cached_laws.PlacedProofs.{some_same}
use Rattle.taken_snapshots.specs.cached_laws.RenewedProofs.{lists_all, told_all}
use Rattle.taken_snapshots.specs.cached_laws.StepProofs.{by_rises, found_rises}
use Rattle.taken_snapshots.specs.entity_index.Held.{HeldEntities, entities_before, held_at}
use Rattle.taken_snapshots.specs.entity_index.Lists.{Lists, list_of, no_lists, with_list}
use Rattle.taken_snapshots.specs.entity_index.AtKeyProofs.{keys-some}
use Rattle.taken_snapshots.specs.entity_parts.Found.{local_found, paired_found}
use Rattle.taken_snapshots.specs.entity_parts.Rising.{local_rises, paired_rises, peaked_rises}
use Rattle.taken_snapshots.specs.touched_entities.Again.{FindPart, IsPassed, found_in, found_under, list_renewed, list_under, lists_at, lists_under, payload_at}
use Rattle.taken_snapshots.specs.touched_entities.Told.{FeedTold, Told, plus, told_at, told_between}
use Rattle.taken_snapshots.specs.touched_entities.OneMoreProofs.{same_payload}

-- a list that has what is found numbers itself
kept : (xs : List Standing) (n : ℕ) (fs : List Found) → findings_of xs ≡ fs → Rises found_cmp fs → xs ≡ renewed xs n fs
kept xs n fs h rises = sym (ap (renewed xs n) (sym h) ∙ renewed-itself xs n (subst (λ (gs : List Found). Rises found_cmp gs) (sym h) rises))

-- the first list renewed, of what may be there
abbrev first_renewed : ℕ → List Standing → List Found → Option Lists → Option Lists
first_renewed n xs fs x = option_map (λ l. with_list l 0 (renewed xs n fs)) x

module _ (t u : Option Tables) (n : ℕ) (keys : List EntityKey) (state : State) (is : IsState state) (cached : AreCached t state.index (feed_of state))
    (beside : (k : EntityKey) → is_among keys k ≡ false → found_under (local_found t) state.index k ≡ found_under (local_found u) state.index k)
    (last : List HeldEntities) (before after : List FeedTold) (passed : IsPassed 0 n (local_found u) keys state.index last before after) where
  abbrev old : List HeldEntities
  old = state.index

  abbrev feeds : ℕ → HeldFeed
  feeds = feed_of state

  -- what is held then
  abbrev pub retabled : State
  retabled = record { index = last; headers = state.headers; peaks = state.peaks }

  abbrev later : ℕ → HeldFeed
  later = feed_of retabled

  -- what each part finds
  abbrev local_now : FindPart
  local_now = local_found u

  abbrev paired_now : FindPart
  paired_now = paired_found (rows_held feeds)

  stays : (k : EntityKey) → is_among keys k ≡ false → findings_of (list_under old k 0) ≡ found_under local_now old k
  stays k h = cached.local_are k ∙ beside k h

  rises : (k : EntityKey) → Rises found_cmp (found_under local_now old k)
  rises k = found_rises local_now (local_rises u) k (payload_at old k)

  lists_new : (k : EntityKey) → lists_at last k ≡ first_renewed n (list_under old k 0) (found_in local_now k (payload_at old k)) (lists_at old k)
  lists_new = lists_all 0 n local_now local_now keys old last before after passed rises (λ k m. refl) stays

  pub payload_new : (k : EntityKey) → payload_at last k ≡ payload_at old k
  payload_new k = same_payload old last passed.feeds_are k

  -- lists of other numbers stay
  pub other_list : (q : ℕ) → ((l : Lists) (xs : List Standing) → list_of (with_list l 0 xs) q ≡ list_of l q) → (k : EntityKey) → list_under last k q ≡ list_under old k q
  other_list q other k = ap (λ (x : Option Lists). list_of (unwrap_or x no_lists) q) (lists_new k) ∙ go (lists_at old k)
    where
      go : (x : Option Lists) → list_of (unwrap_or (first_renewed n (list_under old k 0) (found_in local_now k (payload_at old k)) x) no_lists) q ≡ list_of (unwrap_or x no_lists) q
      go None = refl
      go (Some l) = other l (renewed (list_under old k 0) n (found_in local_now k (payload_at old k)))

  there_some : (k : EntityKey) → is_some (lists_at old k) ≡ is_some (payload_at old k)
  there_some k = keys-some (held_at old k.feed).parts (entities_before k.feed (held_at old k.feed).bytes) k (is.keys_are k.feed)

  pub local_list : (k : EntityKey) → list_under last k 0 ≡ list_renewed 0 n local_now old k
  local_list k = ap (λ (x : Option Lists). list_of (unwrap_or x no_lists) 0) (lists_new k) ∙ go (lists_at old k) (payload_at old k) (there_some k)
    where
      -- where nothing is there nothing is found
      go : (x : Option Lists) (o : Option (List ℕ)) → is_some x ≡ is_some o →
          list_of (unwrap_or (first_renewed n (list_under old k 0) (found_in local_now k o) x) no_lists) 0 ≡ renewed (list_under old k 0) n (found_in local_now k o)
      go None None h = refl
      go None (Some p) h = cc
      go (Some l) o h = refl

  -- ---- what is told there
  pub told_new : (k : EntityKey) → told_at after k ≡ plus (told_at before k) (told_between (list_under old k 0) (list_under last k 0))
  told_new k =
      told_all 0 n local_now local_now keys old last before after passed rises (λ q m. refl) stays k
      ∙ ap (λ xs. plus (told_at before k) (told_between (list_under old k 0) xs)) (sym (local_list k))

  -- ---- the last snapshots
  pub last_new : (f : ℕ) → (later f).last ≡ (feeds f).last
  last_new f = ap (λ o. snapshot_with f (header_at state.headers f).moment o) (passed.feeds_are.bytes_are f)

  pub rows_new : rows_held later ≡ rows_held feeds
  rows_new = below-same (λ f. rows_in (entities_of_snapshot (later f).last)) (λ f. rows_in (entities_of_snapshot (feeds f).last)) feed_limit (λ f l. ap (λ o. rows_in (entities_of_snapshot o)) (last_new f))

  -- ---- what is cached then
  pub cached_new : AreCached u last later
  cached_new = record {
    local_are = λ k. ap findings_of (local_list k) ∙ findings-renewed (list_under old k 0) n (found_in local_now k (payload_at old k)) ∙ ap (found_in local_now k) (sym (payload_new k));
    paired_are = λ k. ap findings_of (other_list 1 (λ l xs. refl) k) ∙ cached.paired_are k ∙ ap (found_in paired_now k) (sym (payload_new k)) ∙ ap (λ v. found_under (paired_found v) last k) (sym rows_new);
    bounded_are = λ k. ap findings_of (other_list 2 (λ l xs. refl) k) ∙ cached.bounded_are k ∙ ap (found_in (bounded_in feeds) k) (sym (payload_new k)) ∙ moved k (payload_at last k);
    peaked_are = λ k. ap findings_of (other_list 3 (λ l xs. refl) k) ∙ cached.peaked_are k ∙ ap (found_in (peaked_in feeds) k) (sym (payload_new k));
  }
    where
      moved : (k : EntityKey) (o : Option (List ℕ)) → found_in (bounded_in feeds) k o ≡ found_in (bounded_in later) k o
      moved k None = refl
      moved k (Some p) = ap (λ x. bounded_by x k (entity_of p)) (sym (last_new k.feed))

  -- ---- all four lists under a key, by what stood there and what is there
  abbrev pub lists_now : EntityKey → List ℕ → Lists
  lists_now k p = record {
    local = renewed (list_under old k 0) n (local_now k (entity_of p));
    paired = renewed (list_under old k 1) n (paired_now k (entity_of p));
    bounded = renewed (list_under old k 2) n (bounded_in feeds k (entity_of p));
    peaked = renewed (list_under old k 3) n (peaked_in feeds k (entity_of p));
  }

  pub lists_last : (k : EntityKey) → lists_at last k ≡ option_map (lists_now k) (payload_at old k)
  lists_last k =
      lists_new k
      ∙ ap (first_renewed n (list_under old k 0) (found_in local_now k (payload_at old k))) (some_same no_lists (payload_at old k) (lists_at old k) (there_some k))
      ∙ go (payload_at old k) refl
    where
      same : (a : List Standing) {b c d x y z : List Standing} → b ≡ x → c ≡ y → d ≡ z →
          (let l : Lists = record { local = a; paired = b; bounded = c; peaked = d } in l) ≡ (let m : Lists = record { local = a; paired = x; bounded = y; peaked = z } in m)
      same a p q r = cc

      go : (o : Option (List ℕ)) → payload_at old k ≡ o → first_renewed n (list_under old k 0) (found_in local_now k o) (option_map (λ p. lists_under old k) o) ≡ option_map (lists_now k) o
      go None h = refl
      go (Some p) h =
          ap Some (same (renewed (list_under old k 0) n (local_now k (entity_of p)))
          (kept (list_under old k 1) n (paired_now k (entity_of p)) (cached.paired_are k ∙ ap (found_in paired_now k) h) (paired_rises (rows_held feeds) k (entity_of p)))
          (kept (list_under old k 2) n (bounded_in feeds k (entity_of p)) (cached.bounded_are k ∙ ap (found_in (bounded_in feeds) k) h) (by_rises (feeds k.feed).last k (entity_of p)))
          (kept (list_under old k 3) n (peaked_in feeds k (entity_of p)) (cached.peaked_are k ∙ ap (found_in (peaked_in feeds) k) h) (peaked_rises (λ f. (feeds f).peaks) k (entity_of p))))
