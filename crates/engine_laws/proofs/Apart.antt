-- Lists held apart by header and entity, and the one list that they join to.
use Rattle.std.specs.Prelude.{◌≡◌, ℕ, zero, suc, ◌<◌, ◌≤◌, ◌==◌, Bool, true, false, cond, List, [], ◌∷◌, ◌++◌, Some, option_map, unwrap_or, refl}
use Rattle.std.specs.List.{flat_map, find}
use Rattle.std.proofs.Common.{sym, ◌∙◌, ap, subst, arith, eq-eqb, append-nil}
use Rattle.std.proofs.lemmas.List.{map-append}
use Rattle.std.proofs.lemmas.List.Elements.{filter-append}
use Rattle.std.proofs.lemmas.Bool.Decides.{nat_tests}
use borrow.Author.Tests.{eqb-true}
use Rattle.rule_table.specs.declared.key.EntityKey.{EntityKey}
use Rattle.rule_table.specs.declared.place.Place.{Place}
use Rattle.rule_table.specs.declared.place.Place.TheVariants as place
use Rattle.rule_table.specs.Order.{same_key}
use Rattle.rule_table.specs.Asked.{feed_of}
use Rattle.rule_table.specs.Found.{Found}
use Rattle.rule_table.specs.Groups.{Each, IsOn, IsUnder}
use Rattle.rule_table.specs.GroupLaws.{each_append, each_weaken}
use Rattle.rule_history.specs.History.{below, feed_limit}
use Rattle.rule_history.specs.Standing.{Standing}
use Rattle.engine_laws.specs.HeldFeeds.{KeyedLists, HeldFeed, AreUnder, AreApart, IsOwn, list_under, feed_list, joined}
use Rattle.engine_laws.specs.Standings.{findings_of}
use Rattle.engine_laws.proofs.Spots.{is_false, key_is, key_other, having}

-- ---- a test that sees one header, or one entity
having_none : (P : Place → Type 0) (test : Found → Bool) (xs : List Standing) → Each (λ x. P x.place) (findings_of xs) → ((x : Found) → test x ≡ true → P x.place → ⊥) → having test xs ≡ []
having_none P test [] all never = refl
having_none P test (x ∷ xs) all never =
    ap (λ b. cond b (x ∷ having test xs) (having test xs)) (is_false (test x.finding) (λ e. never x.finding e all.0)) ∙ having_none P test xs all.1 never

having-append : (test : Found → Bool) (xs ys : List Standing) → having test (xs ++ ys) ≡ having test xs ++ having test ys
having-append test xs ys = filter-append (λ x. test x.finding) xs ys

first-only : (test : Found → Bool) (xs ys : List Standing) → having test ys ≡ [] → having test (xs ++ ys) ≡ having test xs
first-only test xs ys h = having-append test xs ys ∙ ap (λ zs. having test xs ++ zs) h ∙ append-nil (having test xs)

second-only : (test : Found → Bool) (xs ys : List Standing) → having test xs ≡ [] → having test (xs ++ ys) ≡ having test ys
second-only test xs ys h = having-append test xs ys ∙ ap (λ zs. zs ++ having test ys) h

under_two : (k l : EntityKey) (p : Place) → IsUnder k p → IsUnder l p → k ≡ l
under_two k l (place.Head f s) a b = absurd a
under_two k l (place.Entity m p) a b = sym a ∙ b

on_or_under : (f : ℕ) (k : EntityKey) (p : Place) → IsOn f p → IsUnder k p → ⊥
on_or_under f k (place.Head g s) a b = b
on_or_under f k (place.Entity l p) a b = a

pub on_at : (f : ℕ) (p : Place) → IsOn f p → feed_of p ≡ f
on_at f (place.Head g s) a = a
on_at f (place.Entity k p) a = absurd a

pub under_at : (k : EntityKey) (p : Place) → IsUnder k p → feed_of p ≡ k.feed
under_at k (place.Head f s) a = absurd a
under_at k (place.Entity l p) a = ap (λ x. x.feed) a

-- ---- the entities of one feed
module _ (key : EntityKey) (test : Found → Bool) (sees : (x : Found) → test x ≡ true → IsUnder key x.place) where
  not_under : (l : EntityKey) (xs : List Standing) → AreUnder l (findings_of xs) → (key ≡ l → ⊥) → having test xs ≡ []
  not_under l xs all other = having_none (IsUnder l) test xs all (λ x e u. other (under_two key l x.place (sees x e) u))

  none_held : (lists : KeyedLists) → Each (λ c. AreUnder c.0 (findings_of c.1)) lists → Each (λ d. same_key key d.0 ≡ false) lists → having test (flat_map (λ c. c.1) lists) ≡ []
  none_held [] all far = refl
  none_held (c ∷ cs) all far =
      second-only test c.1 (flat_map (λ c. c.1) cs) (not_under c.0 c.1 all.0 (key_other key c.0 far.0)) ∙ none_held cs all.1 far.1

  having-entities : (lists : KeyedLists) → Each (λ c. AreUnder c.0 (findings_of c.1)) lists → AreApart lists → having test (flat_map (λ c. c.1) lists) ≡ having test (list_under key lists)
  having-entities [] all apart = refl
  having-entities (c ∷ cs) all apart =
      elim (same_key c.0 key) as (λ b. same_key c.0 key ≡ b → having test (c.1 ++ flat_map (λ c. c.1) cs) ≡ having test (unwrap_or (option_map (λ c. c.1) (cond b (Some c) (find (λ c. same_key c.0 key) cs))) [])) [
        | true ↦ λ e. first-only test c.1 (flat_map (λ c. c.1) cs) (none_held cs all.1 (subst (λ x. Each (λ d. same_key x d.0 ≡ false) cs) (key_is c.0 key e) apart.0))
        | false ↦ λ e. second-only test c.1 (flat_map (λ c. c.1) cs) (not_under c.0 c.1 all.0 (λ q. key_other c.0 key e (sym q))) ∙ having-entities cs all.1 apart.1
      ] refl

  held-entity : (f : ℕ) (held : HeldFeed) → IsOwn f held → having test (feed_list held) ≡ having test (list_under key held.entities)
  held-entity f held home =
      second-only test held.header (flat_map (λ c. c.1) held.entities) (having_none (IsOn f) test held.header home.head_on (λ x e on. on_or_under f key x.place on (sees x e)))
      ∙ having-entities held.entities home.under_keys home.apart

-- ---- the header of one feed
none_on : (f : ℕ) (test : Found → Bool) → ((x : Found) → test x ≡ true → IsOn f x.place) → (lists : KeyedLists) → Each (λ c. AreUnder c.0 (findings_of c.1)) lists → having test (flat_map (λ c. c.1) lists) ≡ []
none_on f test sees [] all = refl
none_on f test sees (c ∷ cs) all =
    second-only test c.1 (flat_map (λ c. c.1) cs) (having_none (IsUnder c.0) test c.1 all.0 (λ x e u. on_or_under f c.0 x.place (sees x e) u)) ∙ none_on f test sees cs all.1

held-header : (f : ℕ) (test : Found → Bool) → ((x : Found) → test x ≡ true → IsOn f x.place) → (held : HeldFeed) → IsOwn f held → having test (feed_list held) ≡ having test held.header
held-header f test sees held home = first-only test held.header (flat_map (λ c. c.1) held.entities) (none_on f test sees held.entities home.under_keys)

-- ---- all that a feed has is at the feed
pub findings-append : (xs ys : List Standing) → findings_of (xs ++ ys) ≡ findings_of xs ++ findings_of ys
findings-append xs ys = map-append (λ x. x.finding) xs ys

all_append : (P : Place → Type 0) (xs ys : List Standing) → Each (λ x. P x.place) (findings_of xs) → Each (λ x. P x.place) (findings_of ys) → Each (λ x. P x.place) (findings_of (xs ++ ys))
all_append P xs ys h k = subst (Each (λ x. P x.place)) (sym (findings-append xs ys)) (each_append (λ x. P x.place) (findings_of xs) (findings_of ys) h k)

lists_at : (f : ℕ) (lists : KeyedLists) → Each (λ c. AreUnder c.0 (findings_of c.1)) lists → Each (λ c. c.0.feed ≡ f) lists → Each (λ x. feed_of x.place ≡ f) (findings_of (flat_map (λ c. c.1) lists))
lists_at f [] all of_feed = tt
lists_at f (c ∷ cs) all of_feed =
    all_append (λ p. feed_of p ≡ f) c.1 (flat_map (λ c. c.1) cs)
    (each_weaken (λ x. IsUnder c.0 x.place) (λ x. feed_of x.place ≡ f) (λ x u. under_at c.0 x.place u ∙ of_feed.0) (findings_of c.1) all.0)
    (lists_at f cs all.1 of_feed.1)

held_at : (f : ℕ) (held : HeldFeed) → IsOwn f held → Each (λ x. feed_of x.place ≡ f) (findings_of (feed_list held))
held_at f held home =
    all_append (λ p. feed_of p ≡ f) held.header (flat_map (λ c. c.1) held.entities)
    (each_weaken (λ x. IsOn f x.place) (λ x. feed_of x.place ≡ f) (λ x on. on_at f x.place on) (findings_of held.header) home.head_on)
    (lists_at f held.entities home.under_keys home.of_feed)

module _ (feeds : ℕ → HeldFeed) (home : (f : ℕ) → IsOwn f (feeds f)) where
  -- ---- all feeds
  module _ (g : ℕ) (test : Found → Bool) (sees : (x : Found) → test x ≡ true → feed_of x.place ≡ g) where
    apart_feed : (f : ℕ) → (g ≡ f → ⊥) → having test (feed_list (feeds f)) ≡ []
    apart_feed f other = having_none (λ p. feed_of p ≡ f) test (feed_list (feeds f)) (held_at f (feeds f) (home f)) (λ x e at. other (sym (sees x e) ∙ at))

    none_below : (n : ℕ) → n ≤ g → having test (below (λ f. feed_list (feeds f)) n) ≡ []
    none_below zero le = refl
    none_below (suc n) le =
        second-only test (below (λ f. feed_list (feeds f)) n) (feed_list (feeds n)) (none_below n (omega arith)) ∙ apart_feed n (λ e. absurd (omega arith))

    having-below : (n : ℕ) → g < n → having test (below (λ f. feed_list (feeds f)) n) ≡ having test (feed_list (feeds g))
    having-below zero l = absurd (omega arith)
    having-below (suc n) l =
        elim (g == n) as (λ b. (g == n) ≡ b → having test (below (λ f. feed_list (feeds f)) (suc n)) ≡ having test (feed_list (feeds g))) [
          | true ↦ λ e.
              let q : g ≡ n = eqb-true g n e in
              second-only test (below (λ f. feed_list (feeds f)) n) (feed_list (feeds n)) (none_below n (omega arith)) ∙ ap (λ m. having test (feed_list (feeds m))) (sym q)
          | false ↦ λ e. first-only test (below (λ f. feed_list (feeds f)) n) (feed_list (feeds n)) (apart_feed n (λ q. clash q e)) ∙ having-below n (less e)
        ] refl
      where
        clash : g ≡ n → (g == n) ≡ false → ⊥
        clash q e = let t : (g == n) ≡ true = eq-eqb g n q in cc

        less : (g == n) ≡ false → g < n
        less e = grind (arith, nat_tests)

  -- what all lists together have where a test sees one header, or one entity
  pub having-header : (g : ℕ) (test : Found → Bool) → g < feed_limit → ((x : Found) → test x ≡ true → IsOn g x.place) → having test (joined feeds) ≡ having test (feeds g).header
  having-header g test l sees = having-below g test (λ x e. on_at g x.place (sees x e)) feed_limit l ∙ held-header g test sees (feeds g) (home g)

  pub having-entity : (key : EntityKey) (test : Found → Bool) → key.feed < feed_limit → ((x : Found) → test x ≡ true → IsUnder key x.place) → having test (joined feeds) ≡ having test (list_under key (feeds key.feed).entities)
  having-entity key test l sees = having-below key.feed test (λ x e. under_at key x.place (sees x e)) feed_limit l ∙ held-entity key test sees key.feed (feeds key.feed) (home key.feed)
