-- What is told at all places between two states is what the one opens and closes against the other.
use Rattle.std.specs.Prelude.{◌≡◌, ℕ, zero, suc, ◌≤◌, ◌==◌, true, false, List, [], ◌∷◌, ◌++◌, map, length, get_or, Option, Some, None, is_some, unwrap_or, refl}
use Rattle.std.specs.List.{flat_map}
use Rattle.std.proofs.Common.{sym, ap, ◌∙◌, subst}
use borrow.Author.Tests.{eqb-true}
use Rattle.timetable.specs.Timetables.{Tables}
use Rattle.rule_table.specs.declared.key.EntityKey.{EntityKey}
use Rattle.rule_table.specs.Groups.{Each}
use Rattle.rule_table.specs.Order.{key_cmp}
use Rattle.rule_table.specs.Rises.{Rises, Rising}
use Rattle.rule_table.specs.CitedLaws.{both_same}
use Rattle.rule_history.specs.History.{below, feed_limit, feed_limit-is}
use Rattle.rule_history.specs.Standing.{Spot, Standing, opened, closed}
use Rattle.engine_laws.specs.HeldFeeds.{closed_in, list_under, opened_in}
use Rattle.engine_laws.specs.Standings.{findings_of}
use Rattle.engine_laws.proofs.Lists.{below-same}
use Rattle.engine_laws.proofs.Places.{flat-below}
use Rattle.engine_laws.proofs.Sorted.{apart_rising, entities_rise}
use Rattle.touched_entities.specs.part_laws.FourParts.{spots_in_order, standings_in_order}
use Rattle.touched_entities.specs.part_laws.Touched.{is_among}
use Rattle.touched_entities.specs.part_laws.SparseProofs.{touched_close, touched_open}
use Rattle.touched_entities.specs.entity_index.Held.{at_key, entities_before, held_at}
use Rattle.touched_entities.specs.entity_index.Lists.{Lists}
use Rattle.touched_entities.specs.entity_index.AtKeyProofs.{keys-some, each_found}
use Rattle.touched_entities.specs.entity_index.FindingProofs.{among-at}
use Rattle.touched_entities.specs.Again.{lists_under}
use Rattle.touched_entities.specs.Told.{AreTolds, FeedTold, Told, feed_closed, feed_opened, feed_told, header_told, no_told, nothing_told, told_at, told_between, told_parts}
use Rattle.touched_entities.proofs.Fresh.{none_far}
use Rattle.cached_laws.specs.State.{State, IsState, feed_of, whole_of}
use Rattle.cached_laws.specs.Cached.{AreCached}
use Rattle.cached_laws.proofs.Entries.{keys_of_rising, map-map, rising_of}
use Rattle.cached_laws.proofs.Gone.{feed_before}
use Rattle.cached_laws.proofs.Next.{under_is}
use Rattle.cached_laws.proofs.Parts.{closed_whole, opened_whole}

each_get : {A : Type 0} (P : A → Type 0) (xs : List A) (d : A) (g : ℕ) → Each P xs → P d → P (get_or xs g d)
each_get P [] d g all h = h
each_get P (x ∷ xs) d zero all h = all.0
each_get P (x ∷ xs) d (suc g) all h = each_get P xs d g all.1 h

-- ---- the entities of a feed
before_rises : (f : ℕ) (o : Option (List ℕ)) → Rising (entities_before f o)
before_rises f None = tt
before_rises f (Some b) = entities_rise f b

keys_held : (state : State) → IsState state → (f : ℕ) → map (λ c. c.0) (feed_of state f).entities ≡ map (λ e. e.0) (entities_before f (held_at state.index f).bytes)
keys_held state is f = map-map (λ (c : EntityKey × Lists). let d : EntityKey × List Standing = (c.0, whole_of c.1) in d) (λ d. d.0) (held_at state.index f).parts ∙ is.keys_are f

rises_held : (state : State) → IsState state → (f : ℕ) → Rising (feed_of state f).entities
rises_held state is f = rising_of (feed_of state f).entities (subst (Rises key_cmp) (sym (keys_held state is f)) (keys_of_rising (entities_before f (held_at state.index f).bytes) (before_rises f (held_at state.index f).bytes)))

-- nothing stands under the keys of other feeds
far_under : (state : State) → IsState state → (f : ℕ) (k : EntityKey) → (f == k.feed) ≡ false → list_under k (feed_of state f).entities ≡ []
far_under state is f k h =
    none (at_key k (feed_of state f).entities)
    (keys-some (feed_of state f).entities (entities_before f (held_at state.index f).bytes) k (keys_held state is f)
    ∙ ap is_some (none_far f k (entities_before f (held_at state.index f).bytes) (feed_before f (held_at state.index f).bytes) h))
  where
    none : (o : Option (List Standing)) → is_some o ≡ false → unwrap_or o [] ≡ []
    none None e = refl
    none (Some xs) e = cc

-- ---- what is told of a feed, by what is there at each key
module _ {B : Type 0} (g : ℕ) (tolds : List FeedTold) (are : AreTolds tolds) (rises : Rises key_cmp (map (λ e. e.0) (feed_told tolds g).entities)) (pick : Told → List B) (none : pick no_told ≡ [])
    (F : EntityKey → List B) (is : (k : EntityKey) → k.feed ≡ g → pick (told_at tolds k) ≡ F k) (far : (k : EntityKey) → (g == k.feed) ≡ false → F k ≡ []) where
  abbrev told_there : List (EntityKey × Told)
  told_there = (feed_told tolds g).entities

  abbrev pub told_keys : List EntityKey
  told_keys = map (λ e. e.0) told_there

  pub none_beside : (k : EntityKey) → is_among told_keys k ≡ false → F k ≡ []
  none_beside k h = elim (g == k.feed) as (λ b. (g == k.feed) ≡ b → F k ≡ []) [
    | true ↦ λ e. here (sym (eqb-true g k.feed e))
    | false ↦ far k
  ] refl
    where
      nothing : (o : Option Told) → is_some o ≡ false → unwrap_or o no_told ≡ no_told
      nothing None e = refl
      nothing (Some x) e = cc

      here : k.feed ≡ g → F k ≡ []
      here q =
          sym (is k q) ∙ ap (λ f. pick (unwrap_or (at_key k (feed_told tolds f).entities) no_told)) q
          ∙ ap pick (nothing (at_key k told_there) (sym (among-at k told_there) ∙ h)) ∙ none

  pub told_flat : flat_map F told_keys ≡ flat_map (λ e. pick e.1) told_there
  told_flat = go told_there (each_found told_there (apart_rising told_there (rising_of told_there rises))) (are.own g)
    where
      go : (es : List (EntityKey × Told)) → Each (λ e. at_key e.0 told_there ≡ Some e.1) es → Each (λ e. e.0.feed ≡ g) es → flat_map F (map (λ e. e.0) es) ≡ flat_map (λ e. pick e.1) es
      go [] p q = refl
      go (e ∷ es) p q =
          both (sym (is e.0 q.0) ∙ ap (λ f. pick (unwrap_or (at_key e.0 (feed_told tolds f).entities) no_told)) q.0 ∙ ap (λ (o : Option Told). pick (unwrap_or o no_told)) p.0) (go es p.1 q.1)
        where
          both : {xs ys us vs : List B} → xs ≡ ys → us ≡ vs → xs ++ us ≡ ys ++ vs
          both p q = cc

-- two states of which each caches what is found for its timetable, and at each key and on each header what is told between them
module _ (t u : Option Tables) (old new : State) (old_is : IsState old) (new_is : IsState new) (cached : AreCached t old.index (feed_of old)) (cached_new : AreCached u new.index (feed_of new))
    (told : List FeedTold) (tolds_are : AreTolds told) (ordered : Each (λ x. Rises key_cmp (map (λ e. e.0) x.entities)) told)
    (keys_told : (k : EntityKey) → told_at told k ≡ told_parts (lists_under old.index k) (lists_under new.index k))
    (headers_told : (g : ℕ) → header_told told g ≡ told_between (feed_of old g).header (feed_of new g).header) where
  few : length told ≤ feed_limit
  few = subst (λ m. length told ≤ m) (sym feed_limit-is) tolds_are.few

  rises_at : (g : ℕ) → Rises key_cmp (map (λ e. e.0) (feed_told told g).entities)
  rises_at g = each_get (λ (x : FeedTold). Rises key_cmp (map (λ e. e.0) x.entities)) told nothing_told g ordered tt

  -- ---- at entities
  abbrev opened_under : ℕ → EntityKey → List Standing
  opened_under g k = opened (findings_of (list_under k (feed_of old g).entities)) (list_under k (feed_of new g).entities)

  abbrev closed_under : ℕ → EntityKey → List Spot
  closed_under g k = closed (findings_of (list_under k (feed_of old g).entities)) (findings_of (list_under k (feed_of new g).entities))

  opened_here : (g : ℕ) (k : EntityKey) → k.feed ≡ g → standings_in_order (told_at told k).opened ≡ opened_under g k
  opened_here g k h =
      ap (λ (x : Told). standings_in_order x.opened) (keys_told k)
      ∙ opened_whole t u old.index new.index (feed_of old) (feed_of new) cached cached_new k
      ∙ sym (ap (λ xs. opened (findings_of xs) (list_under k (feed_of new g).entities)) (under_is old k g h) ∙ ap (opened (findings_of (whole_of (lists_under old.index k)))) (under_is new k g h))

  closed_here : (g : ℕ) (k : EntityKey) → k.feed ≡ g → spots_in_order (told_at told k).closed ≡ closed_under g k
  closed_here g k h =
      ap (λ (x : Told). spots_in_order x.closed) (keys_told k)
      ∙ closed_whole t u old.index new.index (feed_of old) (feed_of new) cached cached_new k
      ∙ sym (ap (λ xs. closed (findings_of xs) (findings_of (list_under k (feed_of new g).entities))) (under_is old k g h) ∙ ap (λ xs. closed (findings_of (whole_of (lists_under old.index k))) (findings_of xs)) (under_is new k g h))

  opened_far : (g : ℕ) (k : EntityKey) → (g == k.feed) ≡ false → opened_under g k ≡ []
  opened_far g k h = ap (opened (findings_of (list_under k (feed_of old g).entities))) (far_under new new_is g k h)

  closed_far : (g : ℕ) (k : EntityKey) → (g == k.feed) ≡ false → closed_under g k ≡ []
  closed_far g k h = ap (λ xs. closed (findings_of xs) (findings_of (list_under k (feed_of new g).entities))) (far_under old old_is g k h)

  opened_feed : (g : ℕ) → feed_opened (feed_told told g) ≡ opened_in (feed_of old g) (feed_of new g)
  opened_feed g =
      both_same (ap (λ (x : Told). x.opened) (headers_told g))
      (sym (touched_open (feed_of old g).entities (feed_of new g).entities (rises_held new new_is g) (map (λ e. e.0) (feed_told told g).entities) (rises_at g)
      (none_beside g told tolds_are (rises_at g) (λ x. standings_in_order x.opened) refl (opened_under g) (opened_here g) (opened_far g))
      ∙ told_flat g told tolds_are (rises_at g) (λ x. standings_in_order x.opened) refl (opened_under g) (opened_here g) (opened_far g)))

  closed_feed : (g : ℕ) → feed_closed (feed_told told g) ≡ closed_in (feed_of old g) (feed_of new g)
  closed_feed g =
      both_same (ap (λ (x : Told). x.closed) (headers_told g))
      (sym (touched_close (feed_of old g).entities (feed_of new g).entities (rises_held old old_is g) (map (λ e. e.0) (feed_told told g).entities) (rises_at g)
      (none_beside g told tolds_are (rises_at g) (λ x. spots_in_order x.closed) refl (closed_under g) (closed_here g) (closed_far g))
      ∙ told_flat g told tolds_are (rises_at g) (λ x. spots_in_order x.closed) refl (closed_under g) (closed_here g) (closed_far g)))

  pub opened_all : flat_map feed_opened told ≡ below (λ g. opened_in (feed_of old g) (feed_of new g)) feed_limit
  opened_all = flat-below feed_opened told nothing_told refl few ∙ below-same (λ g. feed_opened (feed_told told g)) (λ g. opened_in (feed_of old g) (feed_of new g)) feed_limit (λ g l. opened_feed g)

  pub closed_all : flat_map feed_closed told ≡ below (λ g. closed_in (feed_of old g) (feed_of new g)) feed_limit
  closed_all = flat-below feed_closed told nothing_told refl few ∙ below-same (λ g. feed_closed (feed_told told g)) (λ g. closed_in (feed_of old g) (feed_of new g)) feed_limit (λ g l. closed_feed g)
