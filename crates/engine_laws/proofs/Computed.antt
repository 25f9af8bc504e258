-- The computed list and delta are those of the relations, and there are no others.
use Rattle.std.specs.Prelude.{◌≡◌, ℕ, zero, suc, ◌+◌, ◌<◌, ◌≤◌, ◌==◌, ◌||◌, Bool, true, false, cond, List, [], ◌∷◌, ◌++◌, length, map, Option, refl}
use Rattle.std.proofs.Common.{sym, ◌∙◌, ap, subst, arith, eq-eqb, append-nil}
use Rattle.std.proofs.lemmas.Bool.Decides.{nat_tests}
use borrow.Author.Tests.{eqb-true}
use Rattle.std.proofs.Math.Seq.{take-length}
use Rattle.std.proofs.lemmas.Bool.{or_left, or_right}
use Rattle.feed_values.specs.Snapshot.{entity_payloads}
use Rattle.timetable.specs.Timetables.{Tables}
use Rattle.rule_table.specs.Found.{Found}
use Rattle.rule_table.specs.Groups.{Each}
use Rattle.rule_history.specs.History.{Snapshot, Keyed, entities, entities_of_snapshot, below, feed_limit}
use Rattle.rule_history.specs.Findings.{findings}
use Rattle.rule_history.specs.Changed.{with, count_of, in_tested, in_paired, in_bounded, in_peaked, all_entities}
use Rattle.rule_history.specs.Standing.{Standing, IsSince, stands, Spot, stands_after, same_spot, opened}
use Rattle.engine_laws.specs.Computed.{since_of, standing, standings, delta_after, ListIsComputed, DeltaIsComputed, FirstIsNew}
use Rattle.engine_laws.specs.Delta.{Delta}
use Rattle.engine_laws.specs.Standings.{findings_of, IsListOf}
use Rattle.engine_laws.proofs.Longer.{now-same, now-other}
use Rattle.engine_laws.proofs.Seats as seats
use Rattle.engine_laws.proofs.Since.{since_stays, since_starts}
use Rattle.engine_laws.proofs.Sizes.{each_map, entities_at}
use Rattle.engine_laws.proofs.Spots.{spot_self}
use Rattle.engine_laws.proofs.Proved.{no_findings}

-- ---- since
one_more : (n : ℕ) → n + 1 ≡ suc n
one_more n = omega arith

since_is : (after : ℕ → Bool) (n : ℕ) → after (suc n) ≡ true → IsSince after (suc n) (since_of after (suc n))
since_is after zero here = elim (after zero) as (λ b. IsSince after 1 (cond b 0 0)) [ true ↦ from | false ↦ from ]
  where
    from : IsSince after 1 0
    from = record {
      within = omega arith;
      each = λ m l u. subst (λ k. after k ≡ true) (only m l u) here;
      least = λ r f. omega arith;
    }
      where
        only : (m : ℕ) → 0 < m → m ≤ 1 → 1 ≡ m
        only m l u = omega arith
since_is after (suc n) here =
    elim (after (suc n)) as (λ b. after (suc n) ≡ b → IsSince after (suc (suc n)) (cond b (since_of after (suc n)) (suc n))) [
      | true ↦ λ e. subst (λ k. IsSince after k (since_of after (suc n))) (one_more (suc n))
          (since_stays after after (suc n) (since_of after (suc n)) (λ m l. refl) (subst (λ k. after k ≡ true) (sym (one_more (suc n))) here) (since_is after n e))
      | false ↦ λ e. subst (λ k. IsSince after k (suc n)) (one_more (suc n)) (since_starts after (suc n) e (subst (λ k. after k ≡ true) (sym (one_more (suc n))) here))
    ] refl

same_number : (after : ℕ → Bool) (n r s : ℕ) → IsSince after n r → IsSince after n s → r ≡ s
same_number after n r s one other = ends (one.least s other.each) (other.least r one.each)
  where
    ends : r ≤ s → s ≤ r → r ≡ s
    ends a b = omega arith

since_only : (after : ℕ → Bool) (n s : ℕ) → IsSince after n s → s ≡ since_of after n
since_only after zero s is = absurd (none is.within)
  where
    none : s < 0 → ⊥
    none l = omega arith
since_only after (suc n) s is = same_number after (suc n) s (since_of after (suc n)) is (since_is after n (is.each (suc n) is.within (omega arith)))

-- ---- the list
cons2 : {x y : Standing} {xs ys : List Standing} → x ≡ y → xs ≡ ys → x ∷ xs ≡ y ∷ ys
cons2 h k = cc

numbers : (t : Option Tables) (h : List Snapshot) (list : List Standing) → Each (λ x. IsSince (stands_after t h x.finding) (length h) x.since) list → list ≡ map (standing t h) (findings_of list)
numbers t h [] all = refl
numbers t h (x ∷ list) all =
    cons2 (ap (λ n. let x : Standing = record { finding = x.finding; since = n } in x) (since_only (stands_after t h x.finding) (length h) x.since all.0)) (numbers t h list all.1)

pub list_is_only : (t : Option Tables) (h : List Snapshot) (list : List Standing) → IsListOf t h list → list ≡ standings t h
list_is_only t h list is = numbers t h list is.since ∙ ap (map (standing t h)) is.found

found_again : (t : Option Tables) (h : List Snapshot) (fs : List Found) → findings_of (map (standing t h) fs) ≡ fs
found_again t h [] = refl
found_again t h (f ∷ fs) = ap (λ gs. f ∷ gs) (found_again t h fs)

-- each of some findings stands among them
stands_each : (all fs : List Found) → ((f : Found) → stands fs f ≡ true → stands all f ≡ true) → Each (λ f. stands all f ≡ true) fs
stands_each all [] into = tt
stands_each all (f ∷ fs) into =
    (into f (or_left (same_spot f f) (stands fs f) (spot_self f)), stands_each all fs (λ g h. into g (or_right (same_spot g f) (stands fs g) h)))

module _ (t : Option Tables) (s : Snapshot) (h : List Snapshot) where
  stands_now : (f : Found) → stands (findings t (s ∷ h)) f ≡ true → stands_after t (s ∷ h) f (suc (length h)) ≡ true
  stands_now f is = ap (λ p. stands (findings t p) f) (take-length (s ∷ h)) ∙ is

  sinces : (fs : List Found) → Each (λ f. stands (findings t (s ∷ h)) f ≡ true) fs →
      Each (λ x. IsSince (stands_after t (s ∷ h) x.finding) (length (s ∷ h)) x.since) (map (standing t (s ∷ h)) fs)
  sinces [] all = tt
  sinces (f ∷ fs) all = (since_is (stands_after t (s ∷ h) f) (length h) (stands_now f all.0), sinces fs all.1)

list_is : (t : Option Tables) (h : List Snapshot) → IsListOf t h (standings t h)
list_is t [] = record {
  found = found_again t [] (findings t []);
  since = subst (λ fs. Each (λ x. IsSince (stands_after t [] x.finding) 0 x.since) (map (standing t []) fs)) (sym (no_findings t feed_limit)) tt;
}
list_is t (s ∷ h) = record {
  found = found_again t (s ∷ h) (findings t (s ∷ h));
  since = sinces t s h (findings t (s ∷ h)) (stands_each (findings t (s ∷ h)) (findings t (s ∷ h)) (λ f is. is));
}

pub list_is_computed : ListIsComputed
list_is_computed = record { is_list = list_is; is_only = list_is_only }

-- ---- the delta
abbrev delta : ℕ → ℕ → List Standing → List Spot → ℕ → ℕ → ℕ → ℕ → Delta
delta n e os cs x y z w = record { snapshot = n; entities = e; opened = os; closed = cs; tested = x; paired = y; bounded = z; peaked = w }

same_delta : (d e : Delta) → d.snapshot ≡ e.snapshot → d.entities ≡ e.entities → d.opened ≡ e.opened → d.closed ≡ e.closed → d.tested ≡ e.tested → d.paired ≡ e.paired → d.bounded ≡ e.bounded → d.peaked ≡ e.peaked → d ≡ e
same_delta d e a b c f g h i j =
    ap (λ n. delta n d.entities d.opened d.closed d.tested d.paired d.bounded d.peaked) a
    ∙ ap (λ n. delta e.snapshot n d.opened d.closed d.tested d.paired d.bounded d.peaked) b
    ∙ ap (λ os. delta e.snapshot e.entities os d.closed d.tested d.paired d.bounded d.peaked) c
    ∙ ap (λ cs. delta e.snapshot e.entities e.opened cs d.tested d.paired d.bounded d.peaked) f
    ∙ ap (λ n. delta e.snapshot e.entities e.opened e.closed n d.paired d.bounded d.peaked) g
    ∙ ap (λ n. delta e.snapshot e.entities e.opened e.closed e.tested n d.bounded d.peaked) h
    ∙ ap (λ n. delta e.snapshot e.entities e.opened e.closed e.tested e.paired n d.peaked) i
    ∙ ap (λ n. delta e.snapshot e.entities e.opened e.closed e.tested e.paired e.bounded n) j

pub delta_is_computed : DeltaIsComputed
delta_is_computed t g s list d is owed =
    same_delta d (delta_after t g s) owed.snapshot_is owed.entities_is (owed.opened_is ∙ ap (opened (findings t g)) (list_is_only t (with g s) list is)) owed.closed_is owed.tested_is owed.paired_is owed.bounded_is owed.peaked_is

-- ---- the first snapshot
count_all : (test : Keyed → Bool) (es : List Keyed) → Each (λ e. test e ≡ true) es → count_of test es ≡ length es
count_all test [] all = refl
count_all test (e ∷ es) all = ap (λ b. cond b 1 0 + count_of test es) all.0 ∙ ap (λ n. 1 + n) (count_all test es all.1) ∙ next (length es)
  where
    next : (n : ℕ) → 1 + n ≡ suc n
    next n = omega arith

-- where one feed alone has a part, all parts are its own
module _ (part : ℕ → List Keyed) (g : ℕ) (others : (f : ℕ) → (g == f) ≡ false → part f ≡ []) where
  none_before : (n : ℕ) → n ≤ g → below part n ≡ []
  none_before zero le = refl
  none_before (suc n) le = ap (λ xs. xs ++ part n) (none_before n (omega arith)) ∙ others n (far n g (omega arith))
    where
      far : (n g : ℕ) → n < g → (g == n) ≡ false
      far n g l = grind (arith, nat_tests)

  one_part : (n : ℕ) → g < n → below part n ≡ part g
  one_part zero l = absurd (nothing l)
    where
      nothing : g < 0 → ⊥
      nothing l = omega arith
  one_part (suc n) l =
      elim (g == n) as (λ b. (g == n) ≡ b → below part n ++ part n ≡ part g) [
        | true ↦ λ e. let q : g ≡ n = eqb-true g n e in ap (λ xs. xs ++ part n) (none_before n (at_most g n q)) ∙ ap part (sym q)
        | false ↦ λ e. ap (λ xs. below part n ++ xs) (others n e) ∙ append-nil (below part n) ∙ one_part n (less g n l e)
      ] refl
    where
      at_most : (g n : ℕ) → g ≡ n → n ≤ g
      at_most g n q = omega arith

      less : (g n : ℕ) → g < suc n → (g == n) ≡ false → g < n
      less g n l e = grind (arith, nat_tests)

module _ (s : Snapshot) (within : s.feed < feed_limit) where
  same_self : (s.feed == s.feed) ≡ true
  same_self = eq-eqb s.feed s.feed refl

  others : (f : ℕ) → (s.feed == f) ≡ false → entities (with [] s) f ≡ []
  others f e = ap entities_of_snapshot (now-other [] s f e)

  entities_are : all_entities (with [] s) ≡ entities (with [] s) s.feed
  entities_are = one_part (entities (with [] s)) s.feed others feed_limit within

  counts : (test : Keyed → Bool) → ((e : Keyed) → e.0.feed ≡ s.feed → test e ≡ true) → count_of test (all_entities (with [] s)) ≡ length (entity_payloads s.bytes)
  counts test all =
      ap (count_of test) entities_are
      ∙ count_all test (entities (with [] s) s.feed) (each_map (λ e. e.0.feed ≡ s.feed) (λ e. test e ≡ true) all (entities (with [] s) s.feed) (entities_at (with [] s) s.feed))
      ∙ (let lost = seats.none_is_lost (with [] s) s.feed s (now-same [] s s.feed same_self) in lost.as_many)

  is_tested : (e : Keyed) → e.0.feed ≡ s.feed → in_tested [] s e ≡ true
  is_tested e q = rw (eq-eqb e.0.feed s.feed q) refl

pub first_is_new : FirstIsNew
first_is_new = record {
  all_tested = λ s l. counts s l (in_tested [] s) (is_tested s l);
  all_paired = λ s l. counts s l (λ e. in_tested [] s e || in_paired [] s e) (λ e q. or_left (in_tested [] s e) (in_paired [] s e) (is_tested s l e q));
  all_bounded = λ t s l. counts s l (λ e. in_tested [] s e || in_bounded t [] s e) (λ e q. or_left (in_tested [] s e) (in_bounded t [] s e) (is_tested s l e q));
  all_peaked = λ s l. counts s l (λ e. in_tested [] s e || in_peaked [] s e) (λ e q. or_left (in_tested [] s e) (in_peaked [] s e) (is_tested s l e q));
}
