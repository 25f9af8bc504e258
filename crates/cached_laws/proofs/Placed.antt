-- A snapshot in its place: what is under each key then.
use Rattle.std.specs.Prelude.{◌≡◌, ℕ, ◌<◌, ◌≤◌, ◌==◌, nat_le, Bool, true, false, List, [], Option, Some, None, option_map, is_some, unwrap_or, if◌then◌else◌, refl}
use Rattle.std.proofs.Common.{sym, ap, ◌∙◌, subst, arith}
use borrow.Author.Tests.{eqb-true, eq-eqb, leb-true, leb-false}
use Rattle.rule_table.specs.declared.key.EntityKey.{EntityKey}
use Rattle.rule_history.specs.History.{Snapshot, entities_in, entities_of_snapshot, feed_limit, feed_limit-is}
use Rattle.rule_history.specs.Answered.{payload_under}
use Rattle.rule_history.proofs.SameSnapshots.{same_payload}
use Rattle.touched_entities.specs.entity_index.Held.{HeldEntities, entities_before, held_at, parts_at}
use Rattle.touched_entities.specs.entity_index.Lists.{Lists, no_lists}
use Rattle.touched_entities.specs.entity_index.AtKeyProofs.{keys-some}
use Rattle.touched_entities.specs.Again.{lists_at, lists_under, payload_at}
use Rattle.touched_entities.specs.Exchanged.{IsExchanged}
use Rattle.touched_entities.proofs.Fresh.{fresh_is}
use Rattle.cached_laws.specs.State.{State, IsState, feed_of, header_at, snapshot_with}
use Rattle.cached_laws.specs.Keys.{bytes_before, is_fresh_key, lasts_then}

-- of an option that is there exactly where another is
pub some_same : {A B : Type 0} (d : B) (a : Option A) (o : Option B) → is_some o ≡ is_some a → o ≡ option_map (λ x. unwrap_or o d) a
some_same d None None h = refl
some_same d None (Some y) h = cc
some_same d (Some x) None h = cc
some_same d (Some x) (Some y) h = refl

-- where only the feeds of an engine have entities, one that is there is of these
pub of_few : (old : List HeldEntities) → ((f : ℕ) → 16 ≤ f → (held_at old f).bytes ≡ None) → (k : EntityKey) (p : List ℕ) → payload_at old k ≡ Some p → k.feed < feed_limit
of_few old few k p h = subst (λ n. k.feed < n) (sym feed_limit-is) (within (nat_le 16 k.feed) refl)
  where
    within : (b : Bool) → nat_le 16 k.feed ≡ b → k.feed < 256
    within false q = less k.feed (leb-false 16 k.feed q)
      where
        less : (f : ℕ) → f < 16 → f < 256
        less f l = omega arith
    within true q = absurd (never (sym (ap (λ o. payload_under k (entities_before k.feed o)) (few k.feed (leb-true 16 k.feed q))) ∙ h))
      where
        never : payload_under k [] ≡ Some p → ⊥
        never e = cc

module _ (state : State) (s : Snapshot) (is : IsState state) (next : List HeldEntities) (placed : IsExchanged s.feed s.bytes state.index next) where
  abbrev old : List HeldEntities
  old = state.index

  -- ---- the feed of a key
  far_held : (k : EntityKey) → (s.feed == k.feed) ≡ false → held_at next k.feed ≡ held_at old k.feed
  far_held k h = placed.others_are k.feed h

  -- by the feed of the snapshot, or another
  pub by_feed : {P : Type 0} (k : EntityKey) → (k.feed ≡ s.feed → P) → ((s.feed == k.feed) ≡ false → P) → P
  by_feed {P} k here far = elim (s.feed == k.feed) as (λ b. (s.feed == k.feed) ≡ b → P) [ true ↦ λ h. here (sym (eqb-true s.feed k.feed h)) | false ↦ far ] refl

  pub payload_here : (k : EntityKey) → k.feed ≡ s.feed → payload_at next k ≡ payload_under k (entities_in s.feed s.bytes)
  payload_here k h = ap (λ f. payload_under k (entities_before f (held_at next f).bytes)) h ∙ ap (λ o. payload_under k (entities_before s.feed o)) placed.bytes_are

  pub payload_far : (k : EntityKey) → (s.feed == k.feed) ≡ false → payload_at next k ≡ payload_at old k
  payload_far k h = ap (λ (held : HeldEntities). payload_under k (entities_before k.feed held.bytes)) (far_held k h)

  -- there are lists where there is an entity
  pub there : (k : EntityKey) → lists_at old k ≡ option_map (λ p. lists_under old k) (payload_at old k)
  there k = some_same no_lists (payload_at old k) (lists_at old k) (keys-some (held_at old k.feed).parts (entities_before k.feed (held_at old k.feed).bytes) k (is.keys_are k.feed))

  -- each entity that is there keeps its lists
  pub lists_placed : (k : EntityKey) → lists_at next k ≡ option_map (λ p. lists_under old k) (payload_at next k)
  lists_placed k = by_feed k
      (λ h. placed.lists_are k h ∙ ap (option_map (λ p. lists_under old k)) (sym (payload_here k h)))
      (λ h. ap (λ (held : HeldEntities). at k held) (far_held k h) ∙ there k ∙ ap (option_map (λ p. lists_under old k)) (sym (payload_far k h)))
    where
      at : EntityKey → HeldEntities → Option Lists
      at k held = parts_at k held.parts

  -- one that isn't fresh was there
  pub was_there : (k : EntityKey) (p : List ℕ) → payload_at next k ≡ Some p → is_fresh_key state s k ≡ false → payload_at old k ≡ Some p
  was_there k p h fresh = by_feed k
      (λ q. ap (λ f. payload_under k (entities_before f (held_at old f).bytes)) q
      ∙ same_payload p (payload_under k (entities_before s.feed (bytes_before state s.feed))) (sym (fresh_is s.feed (bytes_before state s.feed) s.bytes k p (sym (payload_here k q) ∙ h)) ∙ fresh))
      (λ q. sym (payload_far k q) ∙ h)

  -- ---- by the last snapshots of the feeds
  pub last_payload : (k : EntityKey) → payload_under k (entities_of_snapshot (feed_of state k.feed).last) ≡ payload_at old k
  last_payload k = go k.feed (header_at state.headers k.feed).moment (held_at old k.feed).bytes
    where
      go : (f m : ℕ) (o : Option (List ℕ)) → payload_under k (entities_of_snapshot (snapshot_with f m o)) ≡ payload_under k (entities_before f o)
      go f m None = refl
      go f m (Some b) = refl

  pub last_here : (f : ℕ) → s.feed ≡ f → (lasts_then s (feed_of state) f).last ≡ Some s
  last_here f h = ap (λ b. if b then Some s else (feed_of state f).last) (eq-eqb s.feed f h)

  pub last_far : (f : ℕ) → (s.feed == f) ≡ false → (lasts_then s (feed_of state) f).last ≡ (feed_of state f).last
  last_far f h = ap (λ b. if b then Some s else (feed_of state f).last) h

  pub then_payload : (k : EntityKey) → payload_under k (entities_of_snapshot (lasts_then s (feed_of state) k.feed).last) ≡ payload_at next k
  then_payload k = by_feed k
      (λ h. ap (λ o. payload_under k (entities_of_snapshot o)) (last_here k.feed (sym h)) ∙ sym (payload_here k h))
      (λ h. ap (λ o. payload_under k (entities_of_snapshot o)) (last_far k.feed h) ∙ last_payload k ∙ sym (payload_far k h))

  -- an entity that was there is of one of the feeds
  pub of_limit : (k : EntityKey) (p : List ℕ) → payload_at old k ≡ Some p → k.feed < feed_limit
  of_limit = of_few old is.few
