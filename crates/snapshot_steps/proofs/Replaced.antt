-- Rows and timestamps exchanged key by key are those of the feeds as they are then.
use Rattle.std.specs.Prelude.{◌≡◌, ℕ, zero, suc, ◌<◌, ◌==◌, Bool, true, false, List, [], ◌∷◌, ◌++◌, map, filter, take, length, get_or, Option, Some, None, option_map, is_none, if◌then◌else◌, refl}
use Rattle.std.specs.declared.cmp.Ordering.TheVariants.{Less}
use Rattle.std.proofs.Common.{sym, ap, ◌∙◌, subst, arith, eq-eqb}
use Rattle.std.proofs.lemmas.List.Folds.{list_any-append}
use Rattle.std.proofs.lemmas.Bool.{or_from, or_parts, or_left, or_right, true≢false}
use borrow.Author.Tests.{eqb-true}
use Rattle.feed_values.specs.Schema.{Value}
use Rattle.feed_values.specs.Messages.{entity}
use Rattle.feed_values.specs.Snapshot.{entity_of}
use Rattle.feed_values.specs.Views.{entity_value}
use Rattle.rule_table.specs.declared.key.EntityKey.{EntityKey}
use Rattle.rule_table.specs.Groups.{Each}
use Rattle.rule_table.specs.Order.{key_cmp, same_key}
use Rattle.rule_table.specs.Rises.{Rises, Rising}
use Rattle.rule_table.proofs.SameTests.{any-same, key-symm}
use Rattle.rule_history.specs.History.{Snapshot, IsTaken, entities_in, entities_of_snapshot}
use Rattle.rule_history.specs.Answered.{payload_under}
use Rattle.rule_history.proofs.SameSnapshots.{same_payload}
use Rattle.engine_laws.specs.HeldFeeds.{IsLastOf}
use Rattle.engine_laws.proofs.Sorted.{entities_rise}
use Rattle.engine_laws.proofs.Spots.{key_self}
use Rattle.held_feeds.specs.part_laws.Touched.{is_among}
use Rattle.held_feeds.specs.entity_index.Changes.{AreIncoming, fresh_keys, gone_keys}
use Rattle.held_feeds.specs.entity_index.Held.{entities_before}
use Rattle.held_feeds.specs.entity_index.Incoming.{Incoming}
use Rattle.held_feeds.specs.row_changes.Held.{AreAllReplaced, AreReplaced, entity_at, is_done}
use Rattle.held_feeds.specs.row_changes.HeldRows.{HeldRows}
use Rattle.held_feeds.specs.row_changes.ChangedIds.{ChangedIds}
use Rattle.held_feeds.specs.row_changes.ReplacedProofs.{all}
use Rattle.held_feeds.specs.touched_entities.Exchanged.{AreDistinct}
use Rattle.held_feeds.specs.touched_entities.FreshProofs.{fresh_distinct, fresh_far, fresh_is, fresh_none}
use Rattle.held_feeds.specs.cached_laws.State.{State, IsState, feed_of}
use Rattle.held_feeds.specs.cached_laws.Keys.{bytes_before, lasts_then}
use Rattle.held_feeds.specs.cached_laws.BoundsProofs.{entity_then, entity_was, last_entities}
use Rattle.held_feeds.specs.cached_laws.EntriesProofs.{keys_of_rising}
use Rattle.held_feeds.specs.cached_laws.GoneProofs.{gone_distinct, gone_feed, gone_payload, gone_some}
use Rattle.held_feeds.specs.touched_entities.OneMoreProofs.{among_drop}

each_index : {A : Type 0} (P : A → Type 0) (xs : List A) (i : ℕ) (d : A) → i < length xs → Each P xs → P (get_or xs i d)
each_index P [] i d l each = absurd (omega (arith, l))
each_index P (x ∷ xs) zero d l each = each.0
each_index P (x ∷ xs) (suc i) d l each = each_index P xs i d (less i (length xs) l) each.1
  where
    less : (i n : ℕ) → suc i < suc n → i < n
    less i n m = omega (arith, m)

-- of keys of which none comes twice none before one is the same
pub apart_take : (ks : List EntityKey) (i : ℕ) (k : EntityKey) → AreDistinct ks → i < length ks → k ≡ get_or ks i k → is_among (take i ks) k ≡ false
apart_take [] i k apart l at = absurd (omega (arith, l))
apart_take (q ∷ qs) zero k apart l at = refl
apart_take (q ∷ qs) (suc i) k apart l at = or_from _ _ (subst (λ x. same_key q x ≡ false) (sym at) (each_index (λ x. same_key q x ≡ false) qs i k (less i (length qs) l) apart.0)) (apart_take qs i k apart.1 (less i (length qs) l) at)
  where
    less : (i n : ℕ) → suc i < suc n → i < n
    less i n m = omega (arith, m)

module _ (state : State) (s : Snapshot) (is : IsState state) (taken : IsTaken s) (fits : s.feed < 16) where
  abbrev old : EntityKey → Option (Value entity)
  old = entity_at (feed_of state)

  abbrev new : EntityKey → Option (Value entity)
  new = entity_at (lasts_then s (feed_of state))

  abbrev fresh : List EntityKey
  fresh = fresh_keys s.feed (bytes_before state s.feed) s.bytes

  abbrev pub gone : List EntityKey
  gone = gone_keys s.feed (bytes_before state s.feed) s.bytes

  -- ---- what is there then at keys of the snapshot's feed
  entity_here : (k : EntityKey) → k.feed ≡ s.feed → new k ≡ option_map entity_of (payload_under k (entities_in s.feed s.bytes))
  entity_here k h = entity_then state s is taken fits k ∙ ap (λ o. option_map entity_of (payload_under k (entities_of_snapshot o))) (ap (λ b. if b then Some s else (feed_of state k.feed).last) (eq-eqb s.feed k.feed (sym h)))

  fresh_feed : (k : EntityKey) → is_among fresh k ≡ true → k.feed ≡ s.feed
  fresh_feed k h = elim (s.feed == k.feed) as (λ b. (s.feed == k.feed) ≡ b → k.feed ≡ s.feed) [
    | true ↦ λ e. sym (eqb-true s.feed k.feed e)
    | false ↦ λ e. absurd (true≢false (sym h ∙ fresh_far s.feed (bytes_before state s.feed) s.bytes k e))
  ] refl

  -- an entity that comes is what is there then
  pub coming_new : (coming : List Incoming) → AreIncoming s.feed (bytes_before state s.feed) s.bytes coming → (i : ℕ) (c : Incoming) → i < length coming → c ≡ get_or coming i c → new c.key ≡ Some (entity_value c.entity)
  coming_new coming are i c l at =
      entity_here c.key (fresh_feed c.key (ap (λ ks. is_among ks c.key) (sym are.keys_are) ∙ named coming i l at))
      ∙ sym (value coming i l at are.values_are)
    where
      named : (cs : List Incoming) (i : ℕ) → i < length cs → c ≡ get_or cs i c → is_among (map (λ x. x.key) cs) c.key ≡ true
      named [] i l at = absurd (omega (arith, l))
      named (x ∷ xs) zero l at = or_left (same_key x.key c.key) (is_among (map (λ y. y.key) xs) c.key) (ap (λ (y : Incoming). same_key y.key c.key) (sym at) ∙ key_self c.key)
      named (x ∷ xs) (suc i) l at = or_right (same_key x.key c.key) (is_among (map (λ y. y.key) xs) c.key) (named xs i (less i (length xs) l) at)
        where
          less : (i n : ℕ) → suc i < suc n → i < n
          less i n m = omega (arith, m)

      value : (cs : List Incoming) (i : ℕ) → i < length cs → c ≡ get_or cs i c → Each (λ x. Some (entity_value x.entity) ≡ option_map entity_of (payload_under x.key (entities_in s.feed s.bytes))) cs →
          Some (entity_value c.entity) ≡ option_map entity_of (payload_under c.key (entities_in s.feed s.bytes))
      value cs i l at each = subst (λ (x : Incoming). Some (entity_value x.entity) ≡ option_map entity_of (payload_under x.key (entities_in s.feed s.bytes))) (sym at)
          (each_index (λ (x : Incoming). Some (entity_value x.entity) ≡ option_map entity_of (payload_under x.key (entities_in s.feed s.bytes))) cs i c l each)

  -- one that is gone isn't
  pub gone_new : (k : EntityKey) → is_among gone k ≡ true → new k ≡ None
  gone_new k h =
      entity_here k (gone_feed s.feed (bytes_before state s.feed) s.bytes k h)
      ∙ ap (option_map entity_of) (gone_payload s.feed (bytes_before state s.feed) s.bytes k h)

  -- ---- each key is done once
  done_is : (done : List EntityKey) (k : EntityKey) → is_done done k ≡ is_among done k
  done_is done k = any-same (same_key k) (λ q. same_key q k) (λ q. key-symm k q) done

  not_done : (done : List EntityKey) (k : EntityKey) → is_among done k ≡ false → is_done done k ≡ false
  not_done done k h = done_is done k ∙ h

  pub fresh_once : (coming : List Incoming) → AreIncoming s.feed (bytes_before state s.feed) s.bytes coming → (i : ℕ) (k : EntityKey) → i < length (map (λ c. c.key) coming) → k ≡ get_or (map (λ c. c.key) coming) i k → is_done (take i (map (λ c. c.key) coming)) k ≡ false
  fresh_once coming are i k l at = not_done (take i (map (λ c. c.key) coming)) k (apart_take (map (λ c. c.key) coming) i k (subst AreDistinct (sym are.keys_are) (fresh_distinct s.feed (bytes_before state s.feed) s.bytes)) l at)

  pub gone_once : (came : List EntityKey) → came ≡ fresh → (i : ℕ) (k : EntityKey) → i < length gone → k ≡ get_or gone i k → is_done (came ++ take i gone) k ≡ false
  gone_once came are i k l at =
      not_done (came ++ take i gone) k
      (list_any-append (λ q. same_key q k) came (take i gone)
      ∙ or_from _ _ (ap (λ ks. is_among ks k) are ∙ fresh_none s.feed (bytes_before state s.feed) s.bytes k (gone_payload s.feed (bytes_before state s.feed) s.bytes k (among_drop gone i k l at)))
      (apart_take gone i k (gone_distinct s.feed (bytes_before state s.feed) s.bytes) l at))

  -- beside what comes and what is gone all stays
  unchanged : (k : EntityKey) → is_among fresh k ≡ false → is_among gone k ≡ false → old k ≡ new k
  unchanged k not_fresh not_gone = elim (s.feed == k.feed) as (λ b. (s.feed == k.feed) ≡ b → old k ≡ new k) [
    | true ↦ λ e. here (sym (eqb-true s.feed k.feed e))
    | false ↦ λ e. far e
  ] refl
    where
      far : (s.feed == k.feed) ≡ false → old k ≡ new k
      far e = entity_was state s is taken fits k ∙ ap (λ es. option_map entity_of (payload_under k es)) (sym (last_entities state s is taken fits k.feed)) ∙ ap (λ o. option_map entity_of (payload_under k (entities_of_snapshot o))) (sym (ap (λ b. if b then Some s else (feed_of state k.feed).last) e)) ∙ sym (entity_then state s is taken fits k)

      same : (o : Option (List ℕ)) → payload_under k (entities_in s.feed s.bytes) ≡ o → payload_under k (entities_before s.feed (bytes_before state s.feed)) ≡ o
      same (Some p) q = same_payload p _ (sym (fresh_is s.feed (bytes_before state s.feed) s.bytes k p q) ∙ not_fresh)
      same None q = was_none (payload_under k (entities_before s.feed (bytes_before state s.feed))) refl
        where
          was_none : (o : Option (List ℕ)) → payload_under k (entities_before s.feed (bytes_before state s.feed)) ≡ o → payload_under k (entities_before s.feed (bytes_before state s.feed)) ≡ None
          was_none None e = e
          was_none (Some p) e = absurd (true≢false (sym (ap is_none q) ∙ sym (gone_some s.feed (bytes_before state s.feed) s.bytes k p e) ∙ not_gone))

      here : k.feed ≡ s.feed → old k ≡ new k
      here h =
          entity_was state s is taken fits k
          ∙ ap (option_map entity_of) (ap (λ f. payload_under k (entities_before f (bytes_before state f))) h ∙ same (payload_under k (entities_in s.feed s.bytes)) refl)
          ∙ sym (entity_here k h)

  pub own_then : (f : ℕ) → IsLastOf f (lasts_then s (feed_of state) f).last
  own_then f = of_feed (s.feed == f) refl
    where
      of_feed : (b : Bool) → (s.feed == f) ≡ b → IsLastOf f (if b then Some s else (feed_of state f).last)
      of_feed true h = eqb-true s.feed f h
      of_feed false h = (is.own f).last_of

  pub all_moved : (came : List EntityKey) → came ≡ fresh → (rows : HeldRows) (ids : ChangedIds) → AreReplaced old new (came ++ gone) rows ids → AreAllReplaced (feed_of state) (lasts_then s (feed_of state)) rows ids
  all_moved came are rows ids replaced =
      all (feed_of state) (lasts_then s (feed_of state)) (λ f. (is.own f).last_of) own_then (came ++ gone)
      (λ k h. let neither = or_parts (is_among came k) (is_among gone k) (sym (list_any-append (λ q. same_key q k) came gone) ∙ sym (done_is (came ++ gone) k) ∙ h) in
      unchanged k (sym (ap (λ ks. is_among ks k) are) ∙ neither.0) neither.1)
      rows ids replaced

-- ---- the keys of what is gone are in order
rising_filter : {A : Type 0} (test : EntityKey × A → Bool) (es : List (EntityKey × A)) → Rising es → Rising (filter test es)
rising_filter test [] h = tt
rising_filter {A} test (e ∷ es) h = elim (test e) as (λ b. Rising (if b then e ∷ filter test es else filter test es)) [
  | true ↦ (kept es h.0, rising_filter test es h.1)
  | false ↦ rising_filter test es h.1
]
  where
    kept : (xs : List (EntityKey × A)) → Each (λ x. key_cmp e.0 x.0 ≡ Less) xs → Each (λ x. key_cmp e.0 x.0 ≡ Less) (filter test xs)
    kept [] p = tt
    kept (x ∷ xs) p = elim (test x) as (λ b. Each (λ y. key_cmp e.0 y.0 ≡ Less) (if b then x ∷ filter test xs else filter test xs)) [ true ↦ (p.0, kept xs p.1) | false ↦ kept xs p.1 ]

pub gone_rise : (f : ℕ) (old : Option (List ℕ)) (new : List ℕ) → Rises key_cmp (gone_keys f old new)
gone_rise f old new = keys_of_rising (filter (λ e. is_none (payload_under e.0 (entities_in f new))) (entities_before f old)) (rising_filter (λ e. is_none (payload_under e.0 (entities_in f new))) (entities_before f old) (before_rises f old))
  where
    before_rises : (f : ℕ) (old : Option (List ℕ)) → Rising (entities_before f old)
    before_rises f None = tt
    before_rises f (Some b) = entities_rise f b
