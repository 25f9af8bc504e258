-- As many are new or have other bytes as the definitions call tested.
use Rattle.std.specs.Prelude.{◌≡◌, ℕ, zero, suc, ◌+◌, ◌<◌, ◌≤◌, ◌==◌, ◌&&◌, Bool, true, false, List, [], ◌∷◌, length, Option, Some, None, option_map, refl}
use Rattle.std.proofs.Common.{◌∙◌, ap, sym, subst, arith, eq-eqb}
use Rattle.std.proofs.lemmas.Bool.Decides.{nat_tests}
use borrow.Author.Tests.{eqb-true}
use Rattle.feed_values.specs.Snapshot.{entity_payloads}
use Rattle.rule_table.specs.Groups.{Each}
use Rattle.rule_table.specs.Order.{same_key}
use Rattle.rule_history.specs.History.{Snapshot, Keyed, now, entities, entities_in, entities_of_snapshot, below, feed_limit}
use Rattle.rule_history.specs.Changed.{with, in_tested, count_of, tested}
use Rattle.rule_history.proofs.Keyed.{entities_feed}
use Rattle.engine_laws.specs.Delta.{is_other}
use Rattle.engine_laws.proofs.Longer.{now-feed, now-same}
use Rattle.engine_laws.proofs.Sizes.{count-append, count-none, count-same, each_map}
use Rattle.entity_index.specs.Held.{entities_before}
use Rattle.entity_index.specs.Changes.{fresh_places, keyed_in}
use Rattle.entity_index.specs.Laws.{FreshAreTested}
use Rattle.entity_index.proofs.Counted.{length-fresh, count-ordered}
use Rattle.entity_index.proofs.Taking.{keyed_apart}

module _ (h : List Snapshot) (s : Snapshot) (small : s.feed < feed_limit) where
  before-is : entities_before s.feed (option_map (λ p. p.bytes) (now h s.feed)) ≡ entities h s.feed
  before-is = go (now h s.feed) refl
    where
      go : (o : Option Snapshot) → now h s.feed ≡ o → entities_before s.feed (option_map (λ p. p.bytes) o) ≡ entities_of_snapshot o
      go None e = refl
      go (Some p) e = ap (λ f. entities_in f p.bytes) (sym (now-feed h s.feed p e))

  entities_at : (f : ℕ) → Each (λ e. e.0.feed ≡ f) (entities (with h s) f)
  entities_at f = go (now (with h s) f) refl
    where
      go : (o : Option Snapshot) → now (with h s) f ≡ o → Each (λ e. e.0.feed ≡ f) (entities_of_snapshot o)
      go None e = tt
      go (Some p) e = subst (λ g. Each (λ (x : Keyed). x.0.feed ≡ g) (entities_in p.feed p.bytes)) (now-feed (with h s) f p e) (entities_feed p.feed p.bytes)

  there : (e : Keyed) → e.0.feed ≡ s.feed → in_tested h s e ≡ is_other (entities h s.feed) e
  there e q = ands (e.0.feed == s.feed) (is_other (entities h s.feed) e) (eq-eqb e.0.feed s.feed q)
    where
      ands : (a b : Bool) → a ≡ true → (a && b) ≡ b
      ands true b m = refl
      ands false b m = cc

  elsewhere : (e : Keyed) → (e.0.feed == s.feed) ≡ false → in_tested h s e ≡ false
  elsewhere e q = ands (e.0.feed == s.feed) (is_other (entities h s.feed) e) q
    where
      ands : (a b : Bool) → a ≡ false → (a && b) ≡ false
      ands true b m = cc
      ands false b m = refl

  -- the entities of the feeds below a number, of which none is of the snapshot's feed, or it alone
  abbrev feeds_below : ℕ → List Keyed
  feeds_below n = below (entities (with h s)) n

  none_else : (n : ℕ) → (s.feed == n) ≡ false → count_of (in_tested h s) (entities (with h s) n) ≡ 0
  none_else n e = count-none (in_tested h s) (entities (with h s) n) (each_map (λ x. x.0.feed ≡ n) (λ x. in_tested h s x ≡ false) (λ x q. elsewhere x (ap (λ g. g == s.feed) q ∙ other n e)) (entities (with h s) n) (entities_at n))
    where
      other : (n : ℕ) → (s.feed == n) ≡ false → (n == s.feed) ≡ false
      other n e = grind (arith, nat_tests)

  none_below : (n : ℕ) → n ≤ s.feed → count_of (in_tested h s) (feeds_below n) ≡ 0
  none_below zero l = refl
  none_below (suc n) l =
      count-append (in_tested h s) (feeds_below n) (entities (with h s) n)
      ∙ ap (λ m. m + count_of (in_tested h s) (entities (with h s) n)) (none_below n (omega (arith, l))) ∙ ap (λ m. 0 + m) (none_else n (far n l))
    where
      far : (n : ℕ) → suc n ≤ s.feed → (s.feed == n) ≡ false
      far n l = grind (arith, nat_tests)

  here_alone : (n : ℕ) → s.feed < n → count_of (in_tested h s) (feeds_below n) ≡ count_of (is_other (entities h s.feed)) (entities (with h s) s.feed)
  here_alone zero l = absurd (omega (arith, l))
  here_alone (suc n) l = count-append (in_tested h s) (feeds_below n) (entities (with h s) n) ∙ either (s.feed == n) refl (here_alone n)
    where
      less : (n : ℕ) → s.feed < suc n → (s.feed == n) ≡ false → s.feed < n
      less n l e = grind (arith, nat_tests)

      zero_left : (m : ℕ) → 0 + m ≡ m
      zero_left m = omega arith

      zero_right : (m : ℕ) → m + 0 ≡ m
      zero_right m = omega arith

      either : (b : Bool) → (s.feed == n) ≡ b → (s.feed < n → count_of (in_tested h s) (feeds_below n) ≡ count_of (is_other (entities h s.feed)) (entities (with h s) s.feed)) →
          count_of (in_tested h s) (feeds_below n) + count_of (in_tested h s) (entities (with h s) n) ≡ count_of (is_other (entities h s.feed)) (entities (with h s) s.feed)
      either true e rest =
          let q : s.feed ≡ n = eqb-true s.feed n e in
          ap (λ m. m + count_of (in_tested h s) (entities (with h s) n)) (none_below n (omega (arith, q))) ∙ zero_left (count_of (in_tested h s) (entities (with h s) n))
          ∙ ap (λ g. count_of (in_tested h s) (entities (with h s) g)) (sym q)
          ∙ count-same (in_tested h s) (is_other (entities h s.feed)) (entities (with h s) s.feed) (each_map (λ x. x.0.feed ≡ s.feed) (λ x. in_tested h s x ≡ is_other (entities h s.feed) x) there (entities (with h s) s.feed) (entities_at s.feed))
      either false e rest =
          ap (λ m. count_of (in_tested h s) (feeds_below n) + m) (none_else n e) ∙ zero_right (count_of (in_tested h s) (feeds_below n)) ∙ rest (less n l e)

  tested-is : tested h s ≡ count_of (is_other (entities h s.feed)) (entities_in s.feed s.bytes)
  tested-is =
      here_alone feed_limit small
      ∙ ap (λ o. count_of (is_other (entities h s.feed)) (entities_of_snapshot o)) (now-same h s s.feed (eq-eqb s.feed s.feed refl))

  fresh-count : length (fresh_places s.feed (option_map (λ p. p.bytes) (now h s.feed)) s.bytes) ≡ tested h s
  fresh-count =
      length-fresh (entities_before s.feed (option_map (λ p. p.bytes) (now h s.feed))) 0 (keyed_in s.feed s.bytes)
      ∙ ap (λ es. count_of (is_other es) (keyed_in s.feed s.bytes)) before-is
      ∙ sym (count-ordered (is_other (entities h s.feed)) [] (keyed_in s.feed s.bytes) (all_absent (keyed_in s.feed s.bytes)) (keyed_apart s.feed (entity_payloads s.bytes)) ∙ none (count_of (is_other (entities h s.feed)) (keyed_in s.feed s.bytes)))
      ∙ sym tested-is
    where
      none : (n : ℕ) → n + 0 ≡ n
      none n = omega arith

      all_absent : (es : List Keyed) → Each (λ e. Each (λ (d : Keyed). same_key d.0 e.0 ≡ false) []) es
      all_absent [] = tt
      all_absent (e ∷ es) = (tt, all_absent es)

pub fresh_tested : FreshAreTested
fresh_tested h s small = fresh-count h s small
