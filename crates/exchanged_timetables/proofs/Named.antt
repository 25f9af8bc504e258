-- Entities that are held, and the keys that are named of them.
use Rattle.std.specs.Prelude.{◌≡◌, ℕ, zero, suc, ◌<◌, ◌≤◌, ◌==◌, nat_le, ◌||◌, Bool, true, false, List, [], ◌∷◌, ◌++◌, map, Option, Some, None, option_map, is_some, refl}
use Rattle.std.proofs.Common.{sym, ap, ◌∙◌, subst, arith}
use Rattle.std.proofs.lemmas.List.{map-append}
use Rattle.std.proofs.lemmas.List.Folds.{list_any-append}
use Rattle.std.proofs.lemmas.Option.{same_Some}
use Rattle.std.proofs.lemmas.Bool.{true≢false}
use borrow.Author.Tests.{eqb-true, leb-true, leb-false}
use Rattle.feed_values.specs.Schema.{Value}
use Rattle.feed_values.specs.Messages.{entity}
use Rattle.feed_values.specs.Snapshot.{entity_of}
use Rattle.timetable.specs.Timetables.{Tables}
use Rattle.rule_table.specs.declared.key.EntityKey.{EntityKey}
use Rattle.rule_table.specs.Groups.{Each}
use Rattle.rule_table.specs.Order.{same_key}
use Rattle.rule_history.specs.Answered.{payload_under}
use Rattle.rule_history.specs.History.{Keyed, below, entities_of_snapshot, feed_limit}
use Rattle.engine_laws.proofs.Spots.{key_is}
use Rattle.taken_snapshots.specs.cached_laws.part_laws.Touched.{is_among}
use Rattle.taken_snapshots.specs.cached_laws.GoneProofs.{feed_before}
use Rattle.taken_snapshots.specs.cached_laws.PlacedProofs.{of_few}
use Rattle.taken_snapshots.specs.cached_laws.State.{State, IsState, feed_of, header_at, snapshot_with}
use Rattle.taken_snapshots.specs.entity_index.Held.{KeyedValues, at_key, entities_before, held_at, values_of}
use Rattle.taken_snapshots.specs.entity_index.AtKeyProofs.{at-mapped, at_first, at_later}
use Rattle.taken_snapshots.specs.entity_index.FindingProofs.{among-at}
use Rattle.taken_snapshots.specs.entity_parts.Found.{local_found}
use Rattle.taken_snapshots.specs.held_feeds.Entities.{entities_held, entities_said}
use Rattle.taken_snapshots.specs.touched_entities.Again.{found_in, found_under, payload_at}
use Rattle.taken_snapshots.specs.touched_entities.FreshProofs.{none_far}
use Rattle.exchanged_timetables.specs.Touched.{AreKeysOf, FindAlikeBeside}

-- ---- lists of feeds
each_front : {A : Type 0} (P : A → Type 0) (xs ys : List A) → Each P (xs ++ ys) → Each P xs
each_front P [] ys h = tt
each_front P (x ∷ xs) ys h = (h.0, each_front P xs ys h.1)

each_back : {A : Type 0} (P : A → Type 0) (xs ys : List A) → Each P (xs ++ ys) → Each P ys
each_back P [] ys h = h
each_back P (x ∷ xs) ys h = each_back P xs ys h.1

each_part : {A : Type 0} (P : A → Type 0) (part : ℕ → List A) (n f : ℕ) → f < n → Each P (below part n) → Each P (part f)
each_part P part zero f l h = absurd (omega (arith, l))
each_part {A} P part (suc n) f l h = elim (nat_le n f) as (λ b. nat_le n f ≡ b → Each P (part f)) [
  | true ↦ λ e. subst (λ g. Each P (part g)) (sym (same n f (leb-true n f e) l)) (each_back P (below part n) (part n) h)
  | false ↦ λ e. each_part P part n f (leb-false n f e) (each_front P (below part n) (part n) h)
] refl
  where
    same : (n f : ℕ) → n ≤ f → f < suc n → f ≡ n
    same n f a b = omega (arith, a, b)

module _ (state : State) (is : IsState state) where
  abbrev held_of : ℕ → KeyedValues
  held_of f = entities_said (feed_of state f).last

  held_is : (f : ℕ) → held_of f ≡ values_of (entities_before f (held_at state.index f).bytes)
  held_is f = go (header_at state.headers f).moment (held_at state.index f).bytes
    where
      go : (m : ℕ) (o : Option (List ℕ)) → entities_said (snapshot_with f m o) ≡ values_of (entities_before f o)
      go m None = refl
      go m (Some b) = refl

  of_feed : (f : ℕ) → Each (λ e. e.0.feed ≡ f) (entities_before f (held_at state.index f).bytes)
  of_feed f = feed_before f (held_at state.index f).bytes

  -- ---- an entity that is there is one of those that are handed out
  within : (k : EntityKey) (p : List ℕ) → payload_at state.index k ≡ Some p → k.feed < feed_limit
  within = of_few state.index is.few

  each_valued : (P : EntityKey × Value entity → Type 0) (k : EntityKey) (p : List ℕ) (es : List Keyed) → Each P (values_of es) → payload_under k es ≡ Some p → P (k, entity_of p)
  each_valued P k p [] all h = cc
  each_valued P k p (e ∷ es) all h = either (same_key e.0 k) refl (each_valued P k p es all.1)
    where
      either : (b : Bool) → same_key e.0 k ≡ b → (payload_under k es ≡ Some p → P (k, entity_of p)) → P (k, entity_of p)
      either true q rest =
          subst (λ (x : Value entity). P (k, x)) (ap entity_of (same_Some e.1 p (sym (at_first e es k q) ∙ h)))
          (subst (λ (x : EntityKey). P (x, entity_of e.1)) (key_is e.0 k q) all.0)
      either false q rest = rest (sym (at_later e es k q) ∙ h)

  pub each_there : (P : EntityKey × Value entity → Type 0) → Each P (entities_held state) → (k : EntityKey) (p : List ℕ) → payload_at state.index k ≡ Some p → P (k, entity_of p)
  each_there P all k p h =
      each_valued P k p (entities_before k.feed (held_at state.index k.feed).bytes)
      (subst (λ (es : KeyedValues). Each P es) (held_is k.feed) (each_part P held_of feed_limit k.feed (within k p h) all)) h

  -- so two timetables find the same under a key that isn't named
  pub same_beside : (t u : Option Tables) (keys : List EntityKey) → FindAlikeBeside keys t u (entities_held state) → (k : EntityKey) → is_among keys k ≡ false →
      found_under (local_found t) state.index k ≡ found_under (local_found u) state.index k
  same_beside t u keys alike k h = go (payload_at state.index k) refl
    where
      go : (o : Option (List ℕ)) → payload_at state.index k ≡ o → found_in (local_found t) k o ≡ found_in (local_found u) k o
      go None e = refl
      go (Some p) e = each_there (λ x. is_among keys x.0 ≡ false → local_found t x.0 x.1 ≡ local_found u x.0 x.1) alike k p e h

  -- ---- under a key that is handed out an entity is there
  there_in : (f : ℕ) (k : EntityKey) → is_among (map (λ e. e.0) (held_of f)) k ≡ true → is_some (payload_at state.index k) ≡ true
  there_in f k h = by_feed (f == k.feed) refl
    where
      some : (o : Option (List ℕ)) → is_some (option_map entity_of o) ≡ is_some o
      some None = refl
      some (Some p) = refl

      found : is_some (payload_under k (entities_before f (held_at state.index f).bytes)) ≡ true
      found =
          sym (some (payload_under k (entities_before f (held_at state.index f).bytes)))
          ∙ ap is_some (sym (at-mapped (λ q p. entity_of p) (entities_before f (held_at state.index f).bytes) k))
          ∙ sym (among-at k (values_of (entities_before f (held_at state.index f).bytes)))
          ∙ ap (λ (es : KeyedValues). is_among (map (λ e. e.0) es) k) (sym (held_is f)) ∙ h

      by_feed : (b : Bool) → (f == k.feed) ≡ b → is_some (payload_at state.index k) ≡ true
      by_feed true e = subst (λ g. is_some (payload_under k (entities_before g (held_at state.index g).bytes)) ≡ true) (eqb-true f k.feed e) found
      by_feed false e = absurd (true≢false (sym found ∙ ap is_some (none_far f k (entities_before f (held_at state.index f).bytes) (of_feed f) e)))

  there_below : (n : ℕ) (k : EntityKey) → is_among (map (λ e. e.0) (below held_of n)) k ≡ true → is_some (payload_at state.index k) ≡ true
  there_below zero k h = absurd (true≢false (sym h))
  there_below (suc n) k h =
      either (there_below n k) (is_among (map (λ e. e.0) (below held_of n)) k) (is_among (map (λ e. e.0) (held_of n)) k) refl refl
      (sym (list_any-append (λ q. same_key q k) (map (λ e. e.0) (below held_of n)) (map (λ e. e.0) (held_of n)))
      ∙ ap (λ ks. is_among ks k) (sym (map-append (λ (e : EntityKey × Value entity). e.0) (below held_of n) (held_of n))) ∙ h)
    where
      either : (is_among (map (λ e. e.0) (below held_of n)) k ≡ true → is_some (payload_at state.index k) ≡ true) → (a b : Bool) →
          is_among (map (λ e. e.0) (below held_of n)) k ≡ a → is_among (map (λ e. e.0) (held_of n)) k ≡ b →
          (is_among (map (λ e. e.0) (below held_of n)) k || is_among (map (λ e. e.0) (held_of n)) k) ≡ true → is_some (payload_at state.index k) ≡ true
      either earlier true b p q r = earlier p
      either earlier false true p q r = there_in n k q
      either earlier false false p q r = absurd (true≢false (sym r ∙ ap (λ a. a || is_among (map (λ e. e.0) (held_of n)) k) p ∙ q))

  pub named_there : (keys : List EntityKey) → AreKeysOf (entities_held state) keys → (k : EntityKey) → is_among keys k ≡ true → is_some (payload_at state.index k) ≡ true
  named_there keys named k h = there_below feed_limit k (go keys named.among h)
    where
      go : (ks : List EntityKey) → Each (λ q. is_among (map (λ e. e.0) (entities_held state)) q ≡ true) ks → is_among ks k ≡ true → is_among (map (λ e. e.0) (entities_held state)) k ≡ true
      go [] all m = absurd (true≢false (sym m))
      go (q ∷ ks) all m = either (same_key q k) refl (go ks all.1)
        where
          either : (b : Bool) → same_key q k ≡ b → (is_among ks k ≡ true → is_among (map (λ e. e.0) (entities_held state)) k ≡ true) → is_among (map (λ e. e.0) (entities_held state)) k ≡ true
          either true e rest = ap (is_among (map (λ x. x.0) (entities_held state))) (sym (key_is q k e)) ∙ all.0
          either false e rest = rest (ap (λ b. b || is_among ks k) (sym e) ∙ m)
