-- What one binary search finds in a list that is sorted by keys.
use Rattle.std.proofs.Common.{◌≡◌, ◌+◌, ◌<◌, ◌≤◌, ◌||◌, ℕ, zero, suc, Bool, true, false, List, [], ◌∷◌, Some, None, length, get_or, arith, refl, ap, sym, ◌∙◌}
use Rattle.std.specs.Prelude.{cond, filter, slice_get, not, ◌&&◌, is_some, option_copied, option_map}
use Rattle.std.specs.Bool.{then_some}
use Rattle.std.specs.List.{find, list_any}
use Rattle.std.specs.List.Sorted.{IsNonDecreasingBy, IsPartitionPoint, IsPartitionedBy, ties}
use Rattle.std.specs.Cmp.{IsTotalOrder}
use Rattle.std.specs.Ordering.{is_eq, is_lt, ordering_index, ordering_reverse, ordering_then}
use Rattle.std.specs.Slice.{IsItemAt}
use denote.Ref.{Bor}
use Rattle.std.specs.declared.cmp.Ordering.{Ordering}
use Rattle.std.specs.declared.cmp.Ordering.TheVariants as order
use Rattle.std.specs.declared.option.Option.{Option}
use Rattle.std.proofs.lemmas.List.Sorted.{length_permutation, list_any-IsPermutation, searchable_from_sorted}
use Rattle.std.proofs.lemmas.Bool.{true≢false}
use Rattle.std.proofs.lemmas.Option.{slice_get_past, slice_get_read}
use Rattle.sorted_rows.specs.ByKey.{Sorts, has_key, has_start, is_under}

-- ---- the first that passes a test, and those that do
find-first : {X : Type 0} (p : X → Bool) (xs : List X) → find p xs ≡ slice_get (filter p xs) 0
find-first p [] = refl
find-first p (x ∷ xs) = each (p x) (find-first p xs)
  where
    each : (b : Bool) → find p xs ≡ slice_get (filter p xs) 0 → cond b (Some x) (find p xs) ≡ slice_get (cond b (x ∷ filter p xs) (filter p xs)) 0
    each true h = refl
    each false h = h

filter-same : {X : Type 0} (p q : X → Bool) → ((x : X) → p x ≡ q x) → (xs : List X) → filter p xs ≡ filter q xs
filter-same p q same xs = λ i. filter (λ x. same x i) xs

pub any-found : {X : Type 0} (p : X → Bool) (xs : List X) → list_any p xs ≡ is_some (find p xs)
any-found p [] = refl
any-found p (x ∷ xs) = each (p x) (any-found p xs)
  where
    each : (b : Bool) → list_any p xs ≡ is_some (find p xs) → (b || list_any p xs) ≡ is_some (cond b (Some x) (find p xs))
    each true h = refl
    each false h = h

pub chosen : {A B : Type 0} (b : Bool) (f : A → B) (x : A) → then_some b (f x) ≡ option_map f (cond b (Some x) None)
chosen true f x = refl
chosen false f x = refl

-- ---- a search by answers that don't fall
module _ {X : Type 0} (o : X → Ordering) where
  abbrev pub is_one : X → Bool
  is_one y = is_eq (o y)

  -- an element, where its answer is Equal
  abbrev pub if_equal : Option X → Option X
  if_equal None = None
  if_equal (Some y) = cond (is_eq (o y)) (Some y) None

  none_greater : (ys : List X) → ((k : ℕ) (d : X) → k < length ys → o (get_or ys k d) ≡ order.Greater) → find is_one ys ≡ None
  none_greater [] h = refl
  none_greater (y ∷ ys) h = ap (λ b. cond (is_eq b) (Some y) (find is_one ys)) (h 0 y (omega arith)) ∙ none_greater ys (λ k d l. h (suc k) d (omega (arith, l)))

  at_most : (x : Ordering) → 2 ≤ ordering_index x → x ≡ order.Greater
  at_most order.Less l = absurd (omega (arith, l))
  at_most order.Equal l = absurd (omega (arith, l))
  at_most order.Greater l = refl

  pub searched : (ys : List X) (p : ℕ) → IsNonDecreasingBy (λ y. ordering_index (o y)) ys → p ≤ length ys
      → ((k : ℕ) (d : X) → 0 ≤ k → k < p → is_lt (o (get_or ys k d)) ≡ true) → ((k : ℕ) (d : X) → p ≤ k → k < length ys → is_lt (o (get_or ys k d)) ≡ false)
      → find is_one ys ≡ if_equal (slice_get ys p)
  searched [] p up l before behind = refl
  searched (y ∷ ys) zero up l before behind = each (o y) refl
    where
      each : (x : Ordering) → o y ≡ x → cond (is_eq (o y)) (Some y) (find is_one ys) ≡ cond (is_eq (o y)) (Some y) None
      each order.Less h = absurd (true≢false (sym (ap is_lt h) ∙ behind 0 y (omega arith) (omega arith)))
      each order.Equal h = ap (λ x. cond (is_eq x) (Some y) (find is_one ys)) h ∙ sym (ap (λ x. cond (is_eq x) (Some y) None) h)
      each order.Greater h =
          ap (λ f. cond (is_eq (o y)) (Some y) f)
          (none_greater ys (λ k d m. at_most (o (get_or ys k d)) (omega (arith, ap ordering_index h, up 0 (suc k) d (omega arith) (omega (arith, m))))))
  searched (y ∷ ys) (suc p) up l before behind =
      ap (λ b. cond b (Some y) (find is_one ys)) (not_equal (o y) (before 0 y (omega arith) (omega arith)))
      ∙ searched ys p (λ i j d m n. up (suc i) (suc j) d (omega (arith, m)) (omega (arith, n))) (omega (arith, l)) (λ k d m n. before (suc k) d (omega arith) (omega (arith, n)))
      (λ k d m n. behind (suc k) d (omega (arith, m)) (omega (arith, n)))
    where
      not_equal : (x : Ordering) → is_lt x ≡ true → is_eq x ≡ false
      not_equal order.Less h = refl
      not_equal order.Equal h = absurd (true≢false (sym h))
      not_equal order.Greater h = refl

  -- ---- and by the code
  abbrev pub is_equal : Option X → Bool
  is_equal None = false
  is_equal (Some y) = is_eq (o y)

  got : (ys : List X) (p : ℕ) (r : Option (Bor X)) → IsItemAt ys p r → option_copied r ≡ slice_get ys p
  got ys p None h = sym (slice_get_past ys p h.3)
  got ys p (Some y) h = sym (slice_get_read ys (length ys) p y.now refl h.3.0 h.1)

  pub partitioned : (ys : List X) → IsNonDecreasingBy (λ y. ordering_index (o y)) ys → IsPartitionedBy (λ y. is_lt (o y)) ys
  partitioned ys up i j d l m h = below (o (get_or ys i d)) (o (get_or ys j d)) (up i j d l m) h
    where
      below : (x y : Ordering) → ordering_index x ≤ ordering_index y → is_lt y ≡ true → is_lt x ≡ true
      below order.Less y l h = refl
      below order.Equal order.Less l h = absurd (omega (arith, l))
      below order.Greater order.Less l h = absurd (omega (arith, l))
      below order.Equal order.Equal l h = absurd (true≢false (sym h))
      below order.Equal order.Greater l h = absurd (true≢false (sym h))
      below order.Greater order.Equal l h = absurd (true≢false (sym h))
      below order.Greater order.Greater l h = absurd (true≢false (sym h))

  module _ (ys : List X) (p : ℕ) (up : IsNonDecreasingBy (λ y. ordering_index (o y)) ys) (bound : p ≤ length ys) (point : IsPartitionPoint (λ y. is_lt (o y) ≡ true) (λ y. is_lt (o y) ≡ false) ys p) (r : Option (Bor X)) (at : IsItemAt ys p r) where
    pub found_at : find is_one ys ≡ if_equal (option_copied r)
    found_at = searched ys p up bound point.0 point.1 ∙ ap if_equal (sym (got ys p r at))

    pub holds_at : list_any is_one ys ≡ is_equal (option_copied r)
    holds_at = any-found is_one ys ∙ ap is_some found_at ∙ each (option_copied r)
      where
        each : (s : Option X) → is_some (if_equal s) ≡ is_equal s
        each None = refl
        each (Some y) = cases (is_eq (o y))
          where
            cases : (b : Bool) → is_some (cond b (Some y) None) ≡ b
            cases true = refl
            cases false = refl

-- ---- what was put in, and what is sorted
module _ {K V : Type 0} (cmp : K → K → Ordering) (total : IsTotalOrder cmp) where
  under_ties : (key : K) (v : V) (e : K × V) → is_under cmp key e ≡ ties (λ a b. is_lt (cmp a.0 b.0)) (key, v) e
  under_ties key v e = each (cmp e.0 key) ∙ ap (λ o. not (is_lt o) && not (is_lt (cmp e.0 key))) (sym (total.antisymm key e.0))
    where
      each : (o : Ordering) → is_eq o ≡ (not (is_lt (ordering_reverse o)) && not (is_lt o))
      each order.Less = refl
      each order.Equal = refl
      each order.Greater = refl

  pub same_first : (put sorted : List (K × V)) → Sorts cmp put sorted → (key : K) → find (is_under cmp key) put ≡ find (is_under cmp key) sorted
  same_first [] [] s key = refl
  same_first [] (y ∷ ys) s key = absurd (omega (arith, length_permutation [] (y ∷ ys) s.moved))
  same_first (x ∷ xs) ys s key =
      find-first (is_under cmp key) (x ∷ xs)
      ∙ ap (λ zs. slice_get zs 0)
      (filter-same (is_under cmp key) (ties (λ a b. is_lt (cmp a.0 b.0)) (key, x.1)) (under_ties key x.1) (x ∷ xs) ∙ sym (s.stable (key, x.1))
      ∙ sym (filter-same (is_under cmp key) (ties (λ a b. is_lt (cmp a.0 b.0)) (key, x.1)) (under_ties key x.1) ys))
      ∙ sym (find-first (is_under cmp key) ys)

  pub rising_answers : (put sorted : List (K × V)) → Sorts cmp put sorted → (key : K) → IsNonDecreasingBy (λ e. ordering_index (cmp e.0 key)) sorted
  rising_answers put sorted s key = searchable_from_sorted total (λ e. e.0) sorted key s.in_order

  pub first_under : (put sorted : List (K × V)) (s : Sorts cmp put sorted) (key : K) (p : ℕ) → p ≤ length sorted → IsPartitionPoint (λ e. is_lt (cmp e.0 key) ≡ true) (λ e. is_lt (cmp e.0 key) ≡ false) sorted p
      → (r : Option (Bor (K × V))) → IsItemAt sorted p r → find (is_under cmp key) put ≡ if_equal (λ e. cmp e.0 key) (option_copied r)
  first_under put sorted s key p bound point r at = same_first put sorted s key ∙ found_at (λ e. cmp e.0 key) sorted p (rising_answers put sorted s key) bound point r at

  pub any_under : (put sorted : List (K × V)) (s : Sorts cmp put sorted) (key : K) (p : ℕ) → p ≤ length sorted → IsPartitionPoint (λ e. is_lt (cmp e.0 key) ≡ true) (λ e. is_lt (cmp e.0 key) ≡ false) sorted p
      → (r : Option (Bor (K × V))) → IsItemAt sorted p r → has_key cmp put key ≡ is_equal (λ e. cmp e.0 key) (option_copied r)
  any_under put sorted s key p bound point r at = list_any-IsPermutation (is_under cmp key) put sorted s.moved ∙ holds_at (λ e. cmp e.0 key) sorted p (rising_answers put sorted s key) bound point r at

-- ---- keys of two parts, by the first one
module _ {A B : Type 0} (a_cmp : A → A → Ordering) (b_cmp : B → B → Ordering) where
  abbrev pub both_cmp : A × B → A × B → Ordering
  both_cmp x y = ordering_then (a_cmp x.0 y.0) (b_cmp x.1 y.1)

first_less : (x y : Ordering) → is_lt (ordering_then x y) ≡ false → is_lt x ≡ false
first_less order.Less y h = h
first_less order.Equal y h = refl
first_less order.Greater y h = refl

module _ {A B V : Type 0} (a_cmp : A → A → Ordering) (b_cmp : B → B → Ordering) (total : IsTotalOrder a_cmp) where
  pub rising_starts : (put sorted : List ((A × B) × V)) → Sorts (both_cmp a_cmp b_cmp) put sorted → (start : A) → IsNonDecreasingBy (λ e. ordering_index (a_cmp e.0.0 start)) sorted
  rising_starts put sorted s start =
      searchable_from_sorted total (λ e. e.0.0) sorted start
      (λ k d l m. first_less (a_cmp (get_or sorted (k + 1) d).0.0 (get_or sorted k d).0.0) (b_cmp (get_or sorted (k + 1) d).0.1 (get_or sorted k d).0.1) (s.in_order k d l m))

  pub any_start : (put sorted : List ((A × B) × V)) (s : Sorts (both_cmp a_cmp b_cmp) put sorted) (start : A) (p : ℕ) → p ≤ length sorted → IsPartitionPoint (λ e. is_lt (a_cmp e.0.0 start) ≡ true) (λ e. is_lt (a_cmp e.0.0 start) ≡ false) sorted p
      → (r : Option (Bor ((A × B) × V))) → IsItemAt sorted p r → has_start a_cmp put start ≡ is_equal (λ e. a_cmp e.0.0 start) (option_copied r)
  any_start put sorted s start p bound point r at =
      list_any-IsPermutation (λ e. is_eq (a_cmp e.0.0 start)) put sorted s.moved ∙ holds_at (λ e. a_cmp e.0.0 start) sorted p (rising_starts put sorted s start) bound point r at
