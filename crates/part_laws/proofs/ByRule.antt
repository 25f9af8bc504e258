-- Two lists in the order of rules, merged, are both together in that order.
use Rattle.std.specs.Prelude.{◌≡◌, ◌⊎◌, ℕ, ◌+◌, ◌≤◌, ◌<◌, ◌==◌, ◌||◌, nat_le, ◌&&◌, Bool, true, false, cond, List, [], ◌∷◌, ◌++◌, map, filter, refl}
use Rattle.std.proofs.Common.{inl, inr, sym, ap, ◌∙◌, arith, append-nil}
use Rattle.std.proofs.lemmas.List.{map-append}
use Rattle.std.proofs.lemmas.List.Elements.{filter-append}
use Rattle.std.proofs.lemmas.Bool.{and_parts}
use Rattle.std.proofs.lemmas.Bool.Decides.{nat_tests}
use borrow.Author.Tests.{eqb-true, eqb-false, eq-eqb, ne_eqb, leb-true}
use Rattle.rule_table.specs.declared.rule.RuleId.{RuleId}
use Rattle.rule_table.specs.Rules.{rule_number, same_rule}
use Rattle.rule_table.specs.Table.{all_rules}
use Rattle.rule_table.specs.EachRule.{each_rule}
use Rattle.rule_table.specs.Groups.{Each, has_rule, has_number}
use Rattle.rule_table.specs.GroupLaws.{each_append, each_weaken}
use Rattle.rule_history.specs.Standing.{Standing}
use Rattle.engine_laws.proofs.Lists.{filter-none, filter-all}
use Rattle.standing_walks.specs.Merged.{number, with_first, merged}
use Rattle.rule_table.specs.ByRule.{each_by_rule}
use Rattle.rule_table.specs.CitedLaws.{both_same}

abbrev pub of_rule : RuleId → Standing → Bool
of_rule r x = same_rule x.finding.rule r

abbrev pub ruled : List RuleId → List Standing → List Standing
ruled rules xs = each_by_rule (λ x. x.finding.rule) rules xs

-- no rule is one of both
abbrev pub Apart : List Standing → List Standing → Type 0
Apart xs ys = (r : RuleId) → (filter (of_rule r) xs ≡ []) ⊎ (filter (of_rule r) ys ≡ [])

-- the numbers of rules rise from one on
abbrev pub rise : ℕ → List RuleId → Bool
rise n [] = true
rise n (r ∷ rules) = nat_le n (rule_number r) && rise (rule_number r + 1) rules

pub all_rise : rise 0 all_rules ≡ true
all_rise = refl

filtered : (r : RuleId) (xs : List Standing) → Each (λ x. number x ≡ rule_number r) (filter (of_rule r) xs)
filtered r [] = tt
filtered r (x ∷ xs) =
    elim (of_rule r x) as (λ b. of_rule r x ≡ b → Each (λ x. number x ≡ rule_number r) (cond b (x ∷ filter (of_rule r) xs) (filter (of_rule r) xs))) [
      | true ↦ λ e. (eqb-true (number x) (rule_number r) e, filtered r xs)
      | false ↦ λ _. filtered r xs
    ] refl

above : (n : ℕ) (rules : List RuleId) (xs : List Standing) → rise n rules ≡ true → Each (λ x. n ≤ number x) (ruled rules xs)
above n [] xs h = tt
above n (r ∷ rules) xs h =
    let hs = and_parts (nat_le n (rule_number r)) (rise (rule_number r + 1) rules) h in
    let first : n ≤ rule_number r = leb-true n (rule_number r) hs.0 in
    each_append (λ x. n ≤ number x) (filter (of_rule r) xs) (ruled rules xs)
    (each_weaken (λ x. number x ≡ rule_number r) (λ x. n ≤ number x) (λ x e. at (rule_number r) (number x) first e) (filter (of_rule r) xs) (filtered r xs))
    (each_weaken (λ x. rule_number r + 1 ≤ number x) (λ x. n ≤ number x) (λ x l. over (rule_number r) (number x) first l) (ruled rules xs) (above (rule_number r + 1) rules xs hs.1))
  where
    at : (m k : ℕ) → n ≤ m → k ≡ m → n ≤ k
    at m k l e = omega arith

    over : (m k : ℕ) → n ≤ m → m + 1 ≤ k → n ≤ k
    over m k l e = omega arith

le : (n a b : ℕ) → a ≡ n → n + 1 ≤ b → nat_le a b ≡ true
le n a b e l = grind (arith, nat_tests)

gt : (n a b : ℕ) → b ≡ n → n + 1 ≤ a → nat_le a b ≡ false
gt n a b e l = grind (arith, nat_tests)

-- what has a number comes before what is above it, from either list
front_left : (n : ℕ) (f xs ys : List Standing) → Each (λ x. number x ≡ n) f → Each (λ y. n + 1 ≤ number y) ys → merged (f ++ xs) ys ≡ f ++ merged xs ys
front_left n [] xs ys hf hy = refl
front_left n (x ∷ f) xs [] hf hy = ap (λ zs. x ∷ zs) (front_left n f xs [] hf.1 tt)
front_left n (x ∷ f) xs (y ∷ ys) hf hy =
    ap (λ b. cond b (x ∷ merged (f ++ xs) (y ∷ ys)) (y ∷ with_first x (merged (f ++ xs)) ys)) (le n (number x) (number y) hf.0 hy.0)
    ∙ ap (λ zs. x ∷ zs) (front_left n f xs (y ∷ ys) hf.1 hy)

front_right : (n : ℕ) (xs f ys : List Standing) → Each (λ y. number y ≡ n) f → Each (λ x. n + 1 ≤ number x) xs → merged xs (f ++ ys) ≡ f ++ merged xs ys
front_right n [] f ys hf hx = refl
front_right n (x ∷ xs) [] ys hf hx = refl
front_right n (x ∷ xs) (y ∷ f) ys hf hx =
    ap (λ b. cond b (x ∷ merged xs (y ∷ (f ++ ys))) (y ∷ with_first x (merged xs) (f ++ ys))) (gt n (number x) (number y) hf.0 hx.0)
    ∙ ap (λ zs. y ∷ zs) (front_right n (x ∷ xs) f ys hf.1 hx)

pub merged-ruled : (n : ℕ) (rules : List RuleId) → rise n rules ≡ true → (a b : List Standing) → Apart a b → merged (ruled rules a) (ruled rules b) ≡ ruled rules (a ++ b)
merged-ruled n [] r a b h = refl
merged-ruled n (q ∷ rules) r a b h =
    let rs = and_parts (nat_le n (rule_number q)) (rise (rule_number q + 1) rules) r in
    let m = rule_number q in
    elim (h q) [
      | inl e ↦
          ap (λ fs. merged (fs ++ ruled rules a) (filter (of_rule q) b ++ ruled rules b)) e
          ∙ front_right m (ruled rules a) (filter (of_rule q) b) (ruled rules b) (filtered q b) (above (m + 1) rules a rs.1)
          ∙ ap (λ zs. filter (of_rule q) b ++ zs) (merged-ruled (m + 1) rules rs.1 a b h)
          ∙ ap (λ fs. (fs ++ filter (of_rule q) b) ++ ruled rules (a ++ b)) (sym e)
          ∙ ap (λ fs. fs ++ ruled rules (a ++ b)) (sym (filter-append (of_rule q) a b))
      | inr e ↦
          ap (λ fs. merged (filter (of_rule q) a ++ ruled rules a) (fs ++ ruled rules b)) e
          ∙ front_left m (filter (of_rule q) a) (ruled rules a) (ruled rules b) (filtered q a) (above (m + 1) rules b rs.1)
          ∙ ap (λ zs. filter (of_rule q) a ++ zs) (merged-ruled (m + 1) rules rs.1 a b h)
          ∙ ap (λ fs. fs ++ ruled rules (a ++ b)) (sym (append-nil (filter (of_rule q) a)) ∙ ap (λ fs. filter (of_rule q) a ++ fs) (sym e) ∙ sym (filter-append (of_rule q) a b))
    ]

-- ---- filters and maps of what is rule by rule
swapped : {A : Type 0} (p q : A → Bool) (xs : List A) → filter p (filter q xs) ≡ filter q (filter p xs)
swapped p q [] = refl
swapped {A} p q (x ∷ xs) = step (p x) (q x) refl refl (swapped p q xs)
  where
    step : (b c : Bool) → p x ≡ b → q x ≡ c → filter p (filter q xs) ≡ filter q (filter p xs) → filter p (cond c (x ∷ filter q xs) (filter q xs)) ≡ filter q (cond b (x ∷ filter p xs) (filter p xs))
    step true true h k e = ap (λ b. cond b (x ∷ filter p (filter q xs)) (filter p (filter q xs))) h ∙ ap (λ ys. x ∷ ys) e ∙ sym (ap (λ b. cond b (x ∷ filter q (filter p xs)) (filter q (filter p xs))) k)
    step true false h k e = e ∙ sym (ap (λ b. cond b (x ∷ filter q (filter p xs)) (filter q (filter p xs))) k)
    step false true h k e = ap (λ b. cond b (x ∷ filter p (filter q xs)) (filter p (filter q xs))) h ∙ e
    step false false h k e = e

pub filter-ruled : (p : Standing → Bool) (rules : List RuleId) (xs : List Standing) → filter p (ruled rules xs) ≡ ruled rules (filter p xs)
filter-ruled p [] xs = refl
filter-ruled p (r ∷ rules) xs =
    filter-append p (filter (of_rule r) xs) (ruled rules xs)
    ∙ ap (λ ys. ys ++ filter p (ruled rules xs)) (swapped p (of_rule r) xs)
    ∙ ap (λ ys. filter (of_rule r) (filter p xs) ++ ys) (filter-ruled p rules xs)

filter-mapped : {A B : Type 0} (f : A → B) (p : A → Bool) (q : B → Bool) → ((x : A) → q (f x) ≡ p x) → (xs : List A) → filter q (map f xs) ≡ map f (filter p xs)
filter-mapped f p q h [] = refl
filter-mapped f p q h (x ∷ xs) =
    ap (λ b. cond b (f x ∷ filter q (map f xs)) (filter q (map f xs))) (h x)
    ∙ elim (p x) as (λ b. cond b (f x ∷ filter q (map f xs)) (filter q (map f xs)) ≡ map f (cond b (x ∷ filter p xs) (filter p xs))) [
      | true ↦ ap (λ ys. f x ∷ ys) (filter-mapped f p q h xs)
      | false ↦ filter-mapped f p q h xs
    ]

-- a map that keeps rules
pub mapped-ruled : {A B : Type 0} (f : A → B) (one : A → RuleId) (two : B → RuleId) → ((x : A) → two (f x) ≡ one x) → (rules : List RuleId) (xs : List A) → each_by_rule two rules (map f xs) ≡ map f (each_by_rule one rules xs)
mapped-ruled f one two h [] xs = refl
mapped-ruled f one two h (r ∷ rules) xs =
    ap (λ ys. ys ++ each_by_rule two rules (map f xs)) (filter-mapped f (λ x. same_rule (one x) r) (λ y. same_rule (two y) r) (λ x. ap (λ q. same_rule q r) (h x)) xs)
    ∙ ap (λ ys. map f (filter (λ x. same_rule (one x) r) xs) ++ ys) (mapped-ruled f one two h rules xs)
    ∙ sym (map-append f (filter (λ x. same_rule (one x) r) xs) (each_by_rule one rules xs))

-- ---- what is rule by rule is so once more
module _ (m : ℕ) where
  far : (r : RuleId) → (m == rule_number r) ≡ false → (xs : List Standing) → Each (λ x. number x ≡ m) xs → filter (of_rule r) xs ≡ []
  far r n xs h = filter-none (of_rule r) xs (each_weaken (λ x. number x ≡ m) (λ x. of_rule r x ≡ false) (λ x e. ap (λ k. k == rule_number r) e ∙ n) xs h)

  -- rules above a number have nothing of it
  none_ruled : (n : ℕ) (rules : List RuleId) → rise n rules ≡ true → m < n → (xs : List Standing) → Each (λ x. number x ≡ m) xs → ruled rules xs ≡ []
  none_ruled n [] h l xs all = refl
  none_ruled n (r ∷ rules) h l xs all =
      let hs = and_parts (nat_le n (rule_number r)) (rise (rule_number r + 1) rules) h in
      let first : n ≤ rule_number r = leb-true n (rule_number r) hs.0 in
      ap (λ ys. ys ++ ruled rules xs) (far r (ne_eqb m (rule_number r) (apart (rule_number r) first)) xs all) ∙ none_ruled (rule_number r + 1) rules hs.1 (under (rule_number r) first) xs all
    where
      apart : (x : ℕ) → n ≤ x → m ≡ x → ⊥
      apart x a b = omega (arith, l)

      under : (x : ℕ) → n ≤ x → m < x + 1
      under x a = omega (arith, l)

  -- and those of one rule stay as they are
  one_ruled : (n : ℕ) (rules : List RuleId) → rise n rules ≡ true → has_number rules m ≡ true → (xs : List Standing) → Each (λ x. number x ≡ m) xs → ruled rules xs ≡ xs
  one_ruled n [] h has xs all = cc
  one_ruled n (r ∷ rules) h has xs all =
      elim (rule_number r == m) as (λ b. (rule_number r == m) ≡ b → (b || has_number rules m) ≡ true → ruled (r ∷ rules) xs ≡ xs) [
        | true ↦ λ e _.
            let same : rule_number r ≡ m = eqb-true (rule_number r) m e in
            ap (λ ys. ys ++ ruled rules xs) (filter-all (of_rule r) xs (each_weaken (λ x. number x ≡ m) (λ x. of_rule r x ≡ true) (λ x q. eq-eqb (number x) (rule_number r) (q ∙ sym same)) xs all))
            ∙ ap (λ ys. xs ++ ys) (none_ruled (rule_number r + 1) rules hs.1 (over (rule_number r) same) xs all) ∙ append-nil xs
        | false ↦ λ e k.
            ap (λ ys. ys ++ ruled rules xs) (far r (ne_eqb m (rule_number r) (λ q. eqb-false (rule_number r) m e (sym q))) xs all) ∙ one_ruled (rule_number r + 1) rules hs.1 k xs all
      ] refl has
    where
      hs : (nat_le n (rule_number r) ≡ true) × (rise (rule_number r + 1) rules ≡ true)
      hs = and_parts (nat_le n (rule_number r)) (rise (rule_number r + 1) rules) h

      over : (x : ℕ) → x ≡ m → m < x + 1
      over x q = omega (arith, q)

known : (r : RuleId) → has_rule all_rules r ≡ true
known = each_rule (has_rule all_rules) refl

pub twice_ruled : (xs : List Standing) → ruled all_rules (ruled all_rules xs) ≡ ruled all_rules xs
twice_ruled xs = go all_rules
  where
    go : (rules : List RuleId) → ruled rules (ruled all_rules xs) ≡ ruled rules xs
    go [] = refl
    go (r ∷ rules) =
        both_same (filter-ruled (of_rule r) all_rules xs ∙ one_ruled (rule_number r) 0 all_rules all_rise (known r) (filter (of_rule r) xs) (filtered r xs)) (go rules)
