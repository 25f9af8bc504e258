-- The next change is the least bound after a moment.
use Rattle.std.proofs.Common.{◌≡◌, ℕ, zero, suc, ◌+◌, ◌≤◌, ◌<◌, nat_lt, Bool, true, false, cond, List, [], ◌∷◌, ◌++◌, length, take, get_or, Some, None, IfSome, ◌⊎◌, inl, inr, refl, sym, subst, ap, ◌∙◌, append-nil, arith}
use Rattle.std.specs.declared.option.Option.{Option}
use Rattle.std.specs.List.{AllByRecursion, Contains, filter, flat_map}
use Rattle.std.proofs.lemmas.List.{take_more}
use Rattle.std.proofs.lemmas.List.Concat.{flat_map-append}
use Rattle.std.proofs.lemmas.List.Elements.{filter-append}
use Rattle.std.proofs.lemmas.List.Sums.{fold-append}
use Rattle.std.proofs.lemmas.Bool.{ltb-false, ltb-true}
use Rattle.std.proofs.lemmas.Option.{same_Some}
use Rattle.alert_terms.specs.InForce.{all_bounds, earliest, lesser}
use Rattle.alert_terms.specs.Laws.{NextIsLeast}

-- ---- the lesser of two
lesser_last : (b : Bool) (m n k : ℕ) → nat_lt n m ≡ b → k < cond b n m → k < n
lesser_last true m n k e l = l
lesser_last false m n k e l = omega (arith, ltb-false n m e)

lesser_first : (b : Bool) (m n k : ℕ) → nat_lt n m ≡ b → k < cond b n m → k < m
lesser_first true m n k e l = omega (arith, ltb-true n m e)
lesser_first false m n k e l = l

under_last : (o : Option ℕ) (n k : ℕ) → k < lesser o n → k < n
under_last None n k l = l
under_last (Some m) n k l = lesser_last (nat_lt n m) m n k refl l

under_first : (o : Option ℕ) (n k : ℕ) → k < lesser o n → IfSome o (λ m. k < m)
under_first None n k l = tt
under_first (Some m) n k l = lesser_first (nat_lt n m) m n k refl l

-- ---- the least of many
-- what lies under the least lies under each
pub under_each : (o : Option ℕ) (ns : List ℕ) (k : ℕ) → IfSome (earliest o ns) (λ n. k < n) → IfSome o (λ m. k < m) × AllByRecursion (λ n. k < n) ns
under_each o [] k l = (l, tt)
under_each o (n ∷ ns) k l = let h = under_each (Some (lesser o n)) ns k l in (under_first o n k h.0, (under_last o n k h.0, h.1))

one_stays : (m : ℕ) (ns : List ℕ) → earliest (Some m) ns ≡ None → ⊥
one_stays m [] e = absurd (cc e)
one_stays m (n ∷ ns) e = one_stays (lesser (Some m) n) ns e

-- where something lies under each, it lies under the least
lesser_over : (b : Bool) (m n k : ℕ) → k < m → k < n → k < cond b n m
lesser_over true m n k first last = last
lesser_over false m n k first last = first

over_lesser : (o : Option ℕ) (n k : ℕ) → IfSome o (λ m. k < m) → k < n → k < lesser o n
over_lesser None n k first last = last
over_lesser (Some m) n k first last = lesser_over (nat_lt n m) m n k first last

over_least : (o : Option ℕ) (ns : List ℕ) (k n : ℕ) → IfSome o (λ m. k < m) → AllByRecursion (λ n. k < n) ns → earliest o ns ≡ Some n → k < n
over_least o [] k n first rest e = subst (λ o. IfSome o (λ m. k < m)) e first
over_least o (x ∷ ns) k n first rest e = over_least (Some (lesser o x)) ns k n (over_lesser o x k first rest.0) rest.1 e

-- it is one of them
lesser_one : (b : Bool) (m n : ℕ) → (cond b n m ≡ m) ⊎ (cond b n m ≡ n)
lesser_one true m n = inr refl
lesser_one false m n = inl refl

later : (x : ℕ) (ns : List ℕ) (n : ℕ) → Contains ns n → Contains (x ∷ ns) n
later x ns n c = (suc c.0, omega (arith, c.1), c.2)

first : (x : ℕ) (ns : List ℕ) (n : ℕ) → n ≡ x → Contains (x ∷ ns) n
first x ns n e = (0, omega arith, sym e)

reached : (o : Option ℕ) (ns : List ℕ) (n : ℕ) → earliest o ns ≡ Some n → (o ≡ Some n) ⊎ Contains ns n
reached o [] n e = inl e
reached None (x ∷ ns) n e = elim (reached (Some x) ns n e) [
  | inl is ↦ inr (first x ns n (sym (same_Some x n is)))
  | inr c ↦ inr (later x ns n c)
]
reached (Some m) (x ∷ ns) n e = elim (reached (Some (lesser (Some m) x)) ns n e) [
  | inl is ↦ chosen (lesser_one (nat_lt x m) m x) (same_Some _ n is)
  | inr c ↦ inr (later x ns n c)
]
  where
    chosen : (lesser (Some m) x ≡ m) ⊎ (lesser (Some m) x ≡ x) → lesser (Some m) x ≡ n → (Some m ≡ Some n) ⊎ Contains (x ∷ ns) n
    chosen (inl old) is = inl (ap (λ k. Some k) (sym old ∙ is))
    chosen (inr new) is = inr (first x ns n (sym is ∙ new))

-- ---- of those after a moment
none_after : (moment : ℕ) (bs : List ℕ) → earliest None (filter (nat_lt moment) bs) ≡ None → AllByRecursion (λ b. b ≤ moment) bs
none_after moment [] e = tt
none_after moment (b ∷ bs) e = by (nat_lt moment b) refl e (none_after moment bs)
  where
    by : (t : Bool) → nat_lt moment b ≡ t → earliest None (cond t (b ∷ filter (nat_lt moment) bs) (filter (nat_lt moment) bs)) ≡ None →
        (earliest None (filter (nat_lt moment) bs) ≡ None → AllByRecursion (λ b. b ≤ moment) bs) → AllByRecursion (λ b. b ≤ moment) (b ∷ bs)
    by true is e rest = absurd (one_stays b (filter (nat_lt moment) bs) e)
    by false is e rest = (ltb-false moment b is, rest e)

kept_of : (moment : ℕ) (bs : List ℕ) (n : ℕ) → Contains (filter (nat_lt moment) bs) n → Contains bs n
kept_of moment [] n c = c
kept_of moment (b ∷ bs) n c = by (nat_lt moment b) c (kept_of moment bs n)
  where
    at : Contains (b ∷ filter (nat_lt moment) bs) n → (Contains (filter (nat_lt moment) bs) n → Contains bs n) → Contains (b ∷ bs) n
    at (zero, l, is) rest = (0, omega arith, is)
    at (suc i, l, is) rest = later b bs n (rest (i, omega (arith, l), is))

    by : (t : Bool) → Contains (cond t (b ∷ filter (nat_lt moment) bs) (filter (nat_lt moment) bs)) n → (Contains (filter (nat_lt moment) bs) n → Contains bs n) → Contains (b ∷ bs) n
    by true c rest = at c rest
    by false c rest = later b bs n (rest c)

all_after : (moment : ℕ) (bs : List ℕ) → AllByRecursion (λ b. moment < b) (filter (nat_lt moment) bs)
all_after moment [] = tt
all_after moment (b ∷ bs) = by (nat_lt moment b) refl (all_after moment bs)
  where
    by : (t : Bool) → nat_lt moment b ≡ t → AllByRecursion (λ b. moment < b) (filter (nat_lt moment) bs) → AllByRecursion (λ b. moment < b) (cond t (b ∷ filter (nat_lt moment) bs) (filter (nat_lt moment) bs))
    by true is rest = (ltb-true moment b is, rest)
    by false is rest = rest

-- what holds of those after a moment
pub where_after : (P : ℕ → Type 0) (moment : ℕ) (bs : List ℕ) → AllByRecursion P (filter (nat_lt moment) bs) → AllByRecursion (λ b. moment < b → P b) bs
where_after P moment [] h = tt
where_after P moment (b ∷ bs) h = by (nat_lt moment b) refl h (where_after P moment bs)
  where
    by : (t : Bool) → nat_lt moment b ≡ t → AllByRecursion P (cond t (b ∷ filter (nat_lt moment) bs) (filter (nat_lt moment) bs)) →
        (AllByRecursion P (filter (nat_lt moment) bs) → AllByRecursion (λ b. moment < b → P b) bs) → AllByRecursion (λ b. moment < b → P b) (b ∷ bs)
    by true is h rest = ((λ l. h.0), rest h.1)
    by false is h rest = ((λ l. absurd (omega (arith, l, ltb-false moment b is))), rest h)

each_from : (n : ℕ) (ns : List ℕ) (o : Option ℕ) → earliest o ns ≡ Some n → AllByRecursion (λ b. n ≤ b) ns
each_from n [] o e = tt
each_from n (x ∷ ns) o e = (least e, each_from n ns (Some (lesser o x)) e)
  where
    least_first : (o : Option ℕ) (x : ℕ) → lesser o x ≤ x
    least_first None x = omega arith
    least_first (Some m) x = by (nat_lt x m) refl
      where
        by : (t : Bool) → nat_lt x m ≡ t → cond t x m ≤ x
        by true is = omega arith
        by false is = ltb-false x m is

    least_old : (m x : ℕ) → lesser (Some m) x ≤ m
    least_old m x = by (nat_lt x m) refl
      where
        by : (t : Bool) → nat_lt x m ≡ t → cond t x m ≤ m
        by true is = omega (arith, ltb-true x m is)
        by false is = omega arith

    falls : (m : ℕ) (ns : List ℕ) → earliest (Some m) ns ≡ Some n → n ≤ m
    falls m [] e = omega (arith, same_Some m n e)
    falls m (y ∷ ns) e = omega (arith, falls (lesser (Some m) y) ns e, least_old m y)

    least : earliest (Some (lesser o x)) ns ≡ Some n → n ≤ x
    least e = omega (arith, falls (lesser o x) ns e, least_first o x)

pub next_is_least : NextIsLeast
next_is_least = record {
  none = λ moment alerts. none_after moment (all_bounds alerts);
  given = λ moment alerts n e. kept_of moment (all_bounds alerts) n (from_none (filter (nat_lt moment) (all_bounds alerts)) n (reached None (filter (nat_lt moment) (all_bounds alerts)) n e));
  after = λ moment alerts n e. over_least None (filter (nat_lt moment) (all_bounds alerts)) moment n tt (all_after moment (all_bounds alerts)) e;
  least = λ moment alerts n e. where_after (λ b. n ≤ b) moment (all_bounds alerts) (each_from n (filter (nat_lt moment) (all_bounds alerts)) None e);
}
  where
    from_none : (ns : List ℕ) (n : ℕ) → (None ≡ Some n) ⊎ Contains ns n → Contains ns n
    from_none ns n (inl e) = absurd (cc e)
    from_none ns n (inr c) = c

-- ---- parts one after the other
flat_more : {A : Type 0} (f : A → List ℕ) (xs : List A) (i : ℕ) (d : A) → i < length xs → flat_map f (take i xs) ++ f (get_or xs i d) ≡ flat_map f (take (i + 1) xs)
flat_more f xs i d l =
    ap (λ ys. flat_map f (take i xs) ++ ys) (sym (append-nil (f (get_or xs i d))))
    ∙ sym (flat_map-append f (take i xs) (get_or xs i d ∷ []))
    ∙ ap (flat_map f) (sym (take_more xs i d l))

-- the least of what the first parts have after a moment, and then of the next one too
pub next_more : {A : Type 0} (f : A → List ℕ) (before : Option ℕ) (moment : ℕ) (xs : List A) (i : ℕ) (d : A) (old new : Option ℕ) → i < length xs →
    old ≡ earliest before (filter (nat_lt moment) (flat_map f (take i xs))) → new ≡ earliest old (filter (nat_lt moment) (f (get_or xs i d))) →
    new ≡ earliest before (filter (nat_lt moment) (flat_map f (take (i + 1) xs)))
next_more f before moment xs i d old new l first next =
    next
    ∙ ap (λ o. earliest o (filter (nat_lt moment) (f (get_or xs i d)))) first
    ∙ sym (fold-append (λ o n. Some (lesser o n)) before (filter (nat_lt moment) (flat_map f (take i xs))) (filter (nat_lt moment) (f (get_or xs i d))))
    ∙ ap (earliest before) (sym (filter-append (nat_lt moment) (flat_map f (take i xs)) (f (get_or xs i d))) ∙ ap (filter (nat_lt moment)) (flat_more f xs i d l))
