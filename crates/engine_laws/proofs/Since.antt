-- Since when rules stand, over one more snapshot.
use Rattle.std.specs.Prelude.{◌≡◌, ℕ, zero, suc, ◌+◌, ◌<◌, ◌≤◌, ◌||◌, Bool, true, false, cond, List, [], ◌∷◌, ◌++◌, length, take, Option, Some, None, unwrap_or, refl, ◌⊎◌}
use Rattle.std.proofs.Common.{inl, inr, sym, ◌∙◌, ap, subst, arith, length-append, append_assoc}
use Rattle.std.proofs.lemmas.List.{take-append-le, map-append}
use Rattle.std.proofs.Math.Nat.{eq-or-lt_of_le}
use Rattle.std.proofs.Math.Seq.{take-length, take-append-add}
use Rattle.std.proofs.lemmas.Bool.{or_left, or_right}
use Rattle.timetable.specs.Timetables.{Tables}
use Rattle.rule_table.specs.Found.{Found}
use Rattle.rule_table.specs.Groups.{Each}
use Rattle.rule_history.specs.History.{Snapshot}
use Rattle.rule_history.specs.Findings.{findings}
use Rattle.rule_history.specs.Changed.{with}
use Rattle.rule_history.specs.Standing.{Standing, IsSince, stands, stands_after, same_spot}
use Rattle.engine_laws.specs.Standings.{findings_of, since_in, numbered, renewed, IsListOf}
use Rattle.engine_laws.proofs.Spots.{spot_self, stands_same}

either_way : (n r : ℕ) → (n ≤ r) ⊎ (r < n)
either_way zero r = inl (omega arith)
either_way (suc n) zero = inr (omega arith)
either_way (suc n) (suc r) = elim (either_way n r) [ inl h ↦ inl (omega arith) | inr h ↦ inr (omega arith) ]

-- ---- one more
pub since_stays : (a b : ℕ → Bool) (n s : ℕ) → ((m : ℕ) → m ≤ n → b m ≡ a m) → b (n + 1) ≡ true → IsSince a n s → IsSince b (n + 1) s
since_stays a b n s same here old = record {
  within = omega (arith, old.within);
  each = λ m l u. elim (eq-or-lt_of_le u) [ inl e ↦ subst (λ k. b k ≡ true) (sym e) here | inr lt ↦ let le : m ≤ n = omega arith in same m le ∙ old.each m l le ];
  least = λ r f. old.least r (λ m l u. sym (same m u) ∙ f m l (omega arith));
}

pub since_starts : (b : ℕ → Bool) (n : ℕ) → b n ≡ false → b (n + 1) ≡ true → IsSince b (n + 1) n
since_starts b n not here = record {
  within = omega arith;
  each = λ m l u. subst (λ k. b k ≡ true) (only n m l u) here;
  least = λ r f. elim (either_way n r) [ inl le ↦ le | inr lt ↦ absurd (clash (f n lt (omega arith))) ];
}
  where
    only : (n m : ℕ) → n < m → m ≤ n + 1 → n + 1 ≡ m
    only n m l u = omega arith

    clash : b n ≡ true → ⊥
    clash e = cc (not, e)

module _ (t : Option Tables) (h : List Snapshot) (s : Snapshot) where
  after-less : (f : Found) (m : ℕ) → m ≤ length h → stands_after t (with h s) f m ≡ stands_after t h f m
  after-less f m le = ap (λ p. stands (findings t p) f) (take-append-le m h (s ∷ []) le)

  after-more : (f : Found) → stands_after t (with h s) f (length h + 1) ≡ stands (findings t (with h s)) f
  after-more f = ap (λ p. stands (findings t p) f) (take-append-add h (s ∷ []) 1)

  after-all : (f : Found) → stands_after t (with h s) f (length h) ≡ stands (findings t h) f
  after-all f = after-less f (length h) (omega arith) ∙ ap (λ p. stands (findings t p) f) (take-length h)

  -- a rule that stood at a place and stands there still does so since the same snapshot
  pub goes_on : (f : Found) (n : ℕ) → IsSince (stands_after t h f) (length h) n → stands (findings t (with h s)) f ≡ true → IsSince (stands_after t (with h s) f) (length h + 1) n
  goes_on f n old here = since_stays (stands_after t h f) (stands_after t (with h s) f) (length h) n (after-less f) (after-more f ∙ here) old

  -- one that did not stand there does so since this one
  pub starts : (f : Found) → stands (findings t h) f ≡ false → stands (findings t (with h s)) f ≡ true → IsSince (stands_after t (with h s) f) (length h + 1) (length h)
  starts f none here = since_starts (stands_after t (with h s) f) (length h) (after-all f ∙ none) (after-more f ∙ here)

-- ---- the numbers of a list
since_none : (list : List Standing) (f : Found) → since_in list f ≡ None → stands (findings_of list) f ≡ false
since_none [] f h = refl
since_none (x ∷ list) f h =
    elim (same_spot f x.finding) as (λ b. cond b (Some x.since) (since_in list f) ≡ None → (b || stands (findings_of list) f) ≡ false) [
      | true ↦ λ e. cc
      | false ↦ λ e. since_none list f e
    ] h

since_along : (a b : ℕ → Bool) (n s : ℕ) → ((m : ℕ) → a m ≡ b m) → IsSince a n s → IsSince b n s
since_along a b n s same old = record {
  within = old.within;
  each = λ m l u. sym (same m) ∙ old.each m l u;
  least = λ r f. old.least r (λ m l u. same m ∙ f m l u);
}

since_some : (t : Option Tables) (h : List Snapshot) (list : List Standing) (f : Found) (n : ℕ) → Each (λ x. IsSince (stands_after t h x.finding) (length h) x.since) list → since_in list f ≡ Some n → IsSince (stands_after t h f) (length h) n
since_some t h [] f n all e = cc
since_some t h (x ∷ list) f n all e =
    elim (same_spot f x.finding) as (λ b. same_spot f x.finding ≡ b → cond b (Some x.since) (since_in list f) ≡ Some n → IsSince (stands_after t h f) (length h) n) [
      | true ↦ λ same e. let is : x.since ≡ n = cc in subst (λ k. IsSince (stands_after t h f) (length h) k) is (since_along (stands_after t h x.finding) (stands_after t h f) (length h) x.since (λ m. sym (stands_same (findings t (take m h)) f x.finding same)) all.0)
      | false ↦ λ _ e. since_some t h list f n all.1 e
    ] refl e

-- each finding of a list stands in a longer one
all_stand : (before fs : List Found) → Each (λ f. stands (before ++ fs) f ≡ true) fs
all_stand before [] = tt
all_stand before (f ∷ fs) = (in_middle before f fs, subst (λ all. Each (λ g. stands all g ≡ true) fs) (append_assoc before (f ∷ []) fs) (all_stand (before ++ f ∷ []) fs))
  where
    in_middle : (before : List Found) (f : Found) (fs : List Found) → stands (before ++ f ∷ fs) f ≡ true
    in_middle [] f fs = or_left (same_spot f f) (stands fs f) (spot_self f)
    in_middle (g ∷ before) f fs = or_right (same_spot f g) (stands (before ++ f ∷ fs) f) (in_middle before f fs)

pub findings-renewed : (old : List Standing) (n : ℕ) (fs : List Found) → findings_of (renewed old n fs) ≡ fs
findings-renewed old n [] = refl
findings-renewed old n (f ∷ fs) = ap (λ gs. f ∷ gs) (findings-renewed old n fs)

module _ (t : Option Tables) (h : List Snapshot) (s : Snapshot) (list : List Standing) (is : IsListOf t h list) where
  one_more : (f : Found) → stands (findings t (with h s)) f ≡ true → IsSince (stands_after t (with h s) f) (length h + 1) (unwrap_or (since_in list f) (length h))
  one_more f here =
      elim (since_in list f) as (λ o. since_in list f ≡ o → IsSince (stands_after t (with h s) f) (length h + 1) (unwrap_or o (length h))) [
        | None ↦ λ e. starts t h s f (ap (λ fs. stands fs f) (sym is.found) ∙ since_none list f e) here
        | Some n ↦ λ e. goes_on t h s f n (since_some t h list f n is.since e) here
      ] refl

  numbers : (fs : List Found) → Each (λ f. stands (findings t (with h s)) f ≡ true) fs → Each (λ x. IsSince (stands_after t (with h s) x.finding) (length h + 1) x.since) (renewed list (length h) fs)
  numbers [] all = tt
  numbers (f ∷ fs) all = (one_more f all.0, numbers fs all.1)

  -- the findings of the longer history, numbered by the list before, are its list
  pub list_more : IsListOf t (with h s) (renewed list (length h) (findings t (with h s)))
  list_more = record {
    found = findings-renewed list (length h) (findings t (with h s));
    since = subst (λ n. Each (λ x. IsSince (stands_after t (with h s) x.finding) n x.since) (renewed list (length h) (findings t (with h s)))) (sym (length-append h (s ∷ [])))
        (numbers (findings t (with h s)) (all_stand [] (findings t (with h s))));
  }

-- ---- numbering part by part
pub renewed-append : (old : List Standing) (n : ℕ) (fs gs : List Found) → renewed old n (fs ++ gs) ≡ renewed old n fs ++ renewed old n gs
renewed-append old n fs gs = map-append (numbered old n) fs gs

pub renewed-same : (a b : List Standing) (n : ℕ) (fs : List Found) → Each (λ f. since_in a f ≡ since_in b f) fs → renewed a n fs ≡ renewed b n fs
renewed-same a b n [] all = refl
renewed-same a b n (f ∷ fs) all = cons2 (ap (λ o. let x : Standing = record { finding = f; since = unwrap_or o n } in x) all.0) (renewed-same a b n fs all.1)
  where
    cons2 : {x y : Standing} {xs ys : List Standing} → x ≡ y → xs ≡ ys → x ∷ xs ≡ y ∷ ys
    cons2 h k = cc
