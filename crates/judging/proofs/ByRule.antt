-- A stable sort by the rules' numbers puts what is of rules rule by rule; a list that is in the order of its rules is itself rule by rule.
use Rattle.std.specs.Prelude.{◌≡◌, ◌⊎◌, ℕ, ◌+◌, ◌≤◌, ◌<◌, suc, ◌==◌, nat_le, nat_lt, Bool, true, false, not, ◌&&◌, ◌||◌, List, [], ◌∷◌, ◌++◌, filter, length, slice_index_or, cond, refl}
use Rattle.std.specs.Ordering.{nat_cmp, is_lt}
use Rattle.std.specs.List.Sorted.{ties, IsStableByKey, IsNonDecreasingBy}
use Rattle.std.proofs.Common.{inl, inr, sym, ap, ◌∙◌, arith}
use Rattle.std.proofs.lemmas.Bool.{and_parts, or_parts}
use borrow.Author.Tests.{eqb-true, eqb-false, eq-eqb, ne_eqb, leb-true, leb-false, ltb-true, ltb-false, both_ways}
use Rattle.rule_table.specs.declared.rule.RuleId.{RuleId}
use Rattle.rule_table.specs.EachRule.{each_rule}
use Rattle.rule_table.specs.Rules.{rule_number, same_rule}
use Rattle.rule_table.specs.Table.{all_rules}
use Rattle.rule_table.specs.Groups.{Each, has_rule, has_number}
use Rattle.rule_table.specs.GroupLaws.{each_weaken}
use Rattle.rule_table.specs.ByRule.{each_by_rule}
use Rattle.rule_table.specs.CitedLaws.{both_same}

pub known : (r : RuleId) → has_rule all_rules r ≡ true
known = each_rule (has_rule all_rules) refl

less_is : (a b : ℕ) → is_lt (nat_cmp a b) ≡ nat_lt a b
less_is a b = either (nat_lt a b) (a == b) where
  either : (l q : Bool) → is_lt (cond l (nat_cmp 0 1) (cond q (nat_cmp 0 0) (nat_cmp 1 0))) ≡ l
  either true q = refl
  either false true = refl
  either false false = refl

ties_are : (a b : ℕ) → (not (is_lt (nat_cmp a b)) && not (is_lt (nat_cmp b a))) ≡ (b == a)
ties_are a b = ap (λ x. not x && not (is_lt (nat_cmp b a))) (less_is a b) ∙ ap (λ x. not (nat_lt a b) && not x) (less_is b a) ∙ either (nat_lt a b) (nat_lt b a) refl refl where
  either : (l m : Bool) → nat_lt a b ≡ l → nat_lt b a ≡ m → (not l && not m) ≡ (b == a)
  either true m p q = sym (ne_eqb b a (λ e. apart (ltb-true a b p) e)) where
    apart : a < b → b ≡ a → ⊥
    apart x y = omega arith
  either false true p q = sym (ne_eqb b a (λ e. apart (ltb-true b a q) e)) where
    apart : b < a → b ≡ a → ⊥
    apart x y = omega arith
  either false false p q = sym (eq-eqb b a (same (ltb-false a b p) (ltb-false b a q))) where
    same : b ≤ a → a ≤ b → b ≡ a
    same x y = omega arith

-- the numbers rise from one on
abbrev rise : ℕ → List RuleId → Bool
rise n [] = true
rise n (r ∷ rules) = nat_le n (rule_number r) && rise (rule_number r + 1) rules

below_none : (n : ℕ) (rules : List RuleId) → rise n rules ≡ true → (m : ℕ) → m < n → has_number rules m ≡ false
below_none n [] h m l = refl
below_none n (r ∷ rules) h m l =
    let hs = and_parts (nat_le n (rule_number r)) (rise (rule_number r + 1) rules) h in
    let first : n ≤ rule_number r = leb-true n (rule_number r) hs.0 in
    ap (λ b. b || has_number rules m) (ne_eqb (rule_number r) m (apart (rule_number r) first))
    ∙ below_none (rule_number r + 1) rules hs.1 m (under (rule_number r) first)
  where
    apart : (x : ℕ) → n ≤ x → x ≡ m → ⊥
    apart x a b = omega (arith, l)

    under : (x : ℕ) → n ≤ x → m < x + 1
    under x a = omega (arith, l)

other_way : (a b : ℕ) → (a == b) ≡ false → (b == a) ≡ false
other_way a b h = ne_eqb b a (λ e. eqb-false a b h (sym e))

-- ---- lists of what is of rules
-- a test that answers alike for all elements
pub filter_when : {A : Type 0} (p : A → Bool) (b : Bool) (fs : List A) → Each (λ f. p f ≡ b) fs → filter p fs ≡ cond b fs []
filter_when p true [] h = refl
filter_when p false [] h = refl
filter_when p true (f ∷ fs) h = ap (λ x. cond x (f ∷ filter p fs) (filter p fs)) h.0 ∙ ap (λ xs. f ∷ xs) (filter_when p true fs h.1)
filter_when p false (f ∷ fs) h = ap (λ x. cond x (f ∷ filter p fs) (filter p fs)) h.0 ∙ filter_when p false fs h.1

module _ {A : Type 0} (rule_of : A → RuleId) where
  abbrev of_rule : RuleId → A → Bool
  of_rule r x = same_rule (rule_of x) r

  abbrev by_rule : List RuleId → List A → List A
  by_rule rules xs = each_by_rule rule_of rules xs

  abbrev pub number : A → ℕ
  number x = rule_number (rule_of x)

  -- ---- a list that is in the order of its rules
  abbrev pub InOrder : List A → Type 0
  InOrder [] = Unit {0}
  InOrder (f ∷ fs) = Each (λ g. rule_number (rule_of f) ≤ rule_number (rule_of g)) fs × InOrder fs

  drop_head : (rules : List RuleId) (f : A) (fs : List A) → has_rule rules (rule_of f) ≡ false → by_rule rules (f ∷ fs) ≡ by_rule rules fs
  drop_head [] f fs h = refl
  drop_head (r ∷ rules) f fs h =
      let hs = or_parts (rule_number r == rule_number (rule_of f)) (has_rule rules (rule_of f)) h in
      both_same (ap (λ b. cond b (f ∷ filter (of_rule r) fs) (filter (of_rule r) fs)) (other_way (rule_number r) (rule_number (rule_of f)) hs.0)) (drop_head rules f fs hs.1)

  first_stays : (n : ℕ) (rules : List RuleId) → rise n rules ≡ true → (f : A) (fs : List A) → has_rule rules (rule_of f) ≡ true → Each (λ g. rule_number (rule_of f) ≤ rule_number (rule_of g)) fs → by_rule rules (f ∷ fs) ≡ f ∷ by_rule rules fs
  first_stays n [] h f fs has least = cc
  first_stays n (r ∷ rules) h f fs has least =
      elim (rule_number r == rule_number (rule_of f)) as (λ b. (rule_number r == rule_number (rule_of f)) ≡ b → (b || has_rule rules (rule_of f)) ≡ true → by_rule (r ∷ rules) (f ∷ fs) ≡ f ∷ by_rule (r ∷ rules) fs) [
        | true ↦ λ e _. here (eqb-true (rule_number r) (rule_number (rule_of f)) e)
        | false ↦ λ e m. later e m (first_stays (rule_number r + 1) rules ((and_parts (nat_le n (rule_number r)) (rise (rule_number r + 1) rules) h).1) f fs m least)
      ] refl has
    where
      rest : rise (rule_number r + 1) rules ≡ true
      rest = (and_parts (nat_le n (rule_number r)) (rise (rule_number r + 1) rules) h).1

      here : rule_number r ≡ rule_number (rule_of f) → by_rule (r ∷ rules) (f ∷ fs) ≡ f ∷ by_rule (r ∷ rules) fs
      here e =
          both_same (ap (λ b. cond b (f ∷ filter (of_rule r) fs) (filter (of_rule r) fs)) (eq-eqb (rule_number (rule_of f)) (rule_number r) (sym e)))
          (drop_head rules f fs (below_none (rule_number r + 1) rules rest (rule_number (rule_of f)) (under (rule_number (rule_of f)) (rule_number r) e)))
        where
          under : (a b : ℕ) → b ≡ a → a < b + 1
          under a b q = omega (arith, q)

      later : (rule_number r == rule_number (rule_of f)) ≡ false → has_rule rules (rule_of f) ≡ true → by_rule rules (f ∷ fs) ≡ f ∷ by_rule rules fs → by_rule (r ∷ rules) (f ∷ fs) ≡ f ∷ by_rule (r ∷ rules) fs
      later e m ih =
          both_same (ap (λ b. cond b (f ∷ filter (of_rule r) fs) (filter (of_rule r) fs)) (other_way (rule_number r) (rule_number (rule_of f)) e) ∙ nothing) ih
          ∙ ap (λ xs. f ∷ (xs ++ by_rule rules fs)) (sym nothing)
        where
          above : (a b : ℕ) → (a + 1 ≤ b) ⊎ (b < a + 1)
          above a b = either (nat_le (a + 1) b) refl where
            either : (c : Bool) → nat_le (a + 1) b ≡ c → (a + 1 ≤ b) ⊎ (b < a + 1)
            either true q = inl (leb-true (a + 1) b q)
            either false q = inr (leb-false (a + 1) b q)

          past : rule_number r + 1 ≤ rule_number (rule_of f)
          past = elim (above (rule_number r) (rule_number (rule_of f))) [
            | inl l ↦ l
            | inr l ↦ absurd (both_ways (has_rule rules (rule_of f)) (below_none (rule_number r + 1) rules rest (rule_number (rule_of f)) l) m)
          ]

          not_it : (a b c : ℕ) → a + 1 ≤ b → b ≤ c → c ≡ a → ⊥
          not_it a b c p q x = omega arith

          nothing : filter (of_rule r) fs ≡ []
          nothing = filter_when (of_rule r) false fs (each_weaken (λ g. rule_number (rule_of f) ≤ rule_number (rule_of g)) (λ g. of_rule r g ≡ false)
              (λ g l. ne_eqb (rule_number (rule_of g)) (rule_number r) (not_it (rule_number r) (rule_number (rule_of f)) (rule_number (rule_of g)) past l)) fs least)

  pub settled : (fs : List A) → InOrder fs → by_rule all_rules fs ≡ fs
  settled [] h = refl
  settled (f ∷ fs) h = first_stays 0 all_rules refl f fs (known (rule_of f)) h.0 ∙ ap (λ xs. f ∷ xs) (settled fs h.1)

  -- lists that have the same findings of each rule, in the same order
  pub same_ruled : (rules : List RuleId) (xs ys : List A) → ((r : RuleId) → filter (of_rule r) ys ≡ filter (of_rule r) xs) → by_rule rules ys ≡ by_rule rules xs
  same_ruled [] xs ys h = refl
  same_ruled (r ∷ rules) xs ys h = both_same (h r) (same_ruled rules xs ys h)

  same_tests : (p q : A → Bool) → ((f : A) → p f ≡ q f) → (fs : List A) → filter p fs ≡ filter q fs
  same_tests p q h [] = refl
  same_tests p q h (f ∷ fs) = ap (λ b. cond b (f ∷ filter p fs) (filter p fs)) (h f) ∙ ap (λ xs. cond (q f) (f ∷ xs) xs) (same_tests p q h fs)

  each_from : (P : A → Type 0) (fs : List A) → ((j : ℕ) (d : A) → j < length fs → P (slice_index_or fs j d)) → Each P fs
  each_from P [] h = tt
  each_from P (f ∷ fs) h = (h 0 f (omega arith), each_from P fs (λ j d l. h (suc j) d (up j (length fs) l)))
    where
      up : (j n : ℕ) → j < n → suc j < suc n
      up j n l = omega (arith, l)

  in_order : (fs : List A) → IsNonDecreasingBy number fs → InOrder fs
  in_order [] h = tt
  in_order (f ∷ fs) h = (
    each_from (λ g. rule_number (rule_of f) ≤ rule_number (rule_of g)) fs (λ j d l. h 0 (suc j) d (omega arith) (up j (length fs) l)),
    in_order fs (λ i j d le l. h (suc i) (suc j) d (both i j le) (up j (length fs) l)),
  )
    where
      up : (j n : ℕ) → j < n → suc j < suc n
      up j n l = omega (arith, l)

      both : (i j : ℕ) → i ≤ j → suc i ≤ suc j
      both i j l = omega (arith, l)

  -- one of a rule, or there is none
  pick : (r : RuleId) (xs : List A) → ((x : A) × (of_rule r x ≡ true)) ⊎ (filter (of_rule r) xs ≡ [])
  pick r [] = inr refl
  pick r (x ∷ xs) =
      elim (of_rule r x) as (λ b. of_rule r x ≡ b → ((y : A) × (of_rule r y ≡ true)) ⊎ (cond b (x ∷ filter (of_rule r) xs) (filter (of_rule r) xs) ≡ [])) [
        | true ↦ λ e. inl (x, e)
        | false ↦ λ _. pick r xs
      ] refl

  pub sorted_is : (xs ys : List A) → IsStableByKey number nat_cmp xs ys → IsNonDecreasingBy number ys → ys ≡ by_rule all_rules xs
  sorted_is xs ys stable up = sym (settled ys (in_order ys up)) ∙ same_ruled all_rules xs ys (λ r. each r)
    where
      by : (r : RuleId) (any : A) → of_rule r any ≡ true → filter (of_rule r) ys ≡ filter (of_rule r) xs
      by r any is =
          let same : rule_number (rule_of any) ≡ rule_number r = eqb-true (rule_number (rule_of any)) (rule_number r) is in
          let test : (f : A) → ties (λ x y. is_lt (nat_cmp (number x) (number y))) any f ≡ of_rule r f = λ f. ties_are (number any) (number f) ∙ ap (λ n. number f == n) same in
          sym (same_tests _ (of_rule r) test ys) ∙ stable any ∙ same_tests _ (of_rule r) test xs

      each : (r : RuleId) → filter (of_rule r) ys ≡ filter (of_rule r) xs
      each r = elim (pick r ys) [
        | inl x ↦ by r x.0 x.1
        | inr n ↦ elim (pick r xs) [ inl x ↦ by r x.0 x.1 | inr m ↦ n ∙ sym m ]
      ]
