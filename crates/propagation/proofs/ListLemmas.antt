-- Parts of lists, and the last of a list.
use Rattle.std.proofs.Common.{◌≡◌, ◌<◌, ◌≤◌, ◌+◌, ◌-◌, ◌∷◌, ◌++◌, [], ℕ, zero, suc, List, length, take, drop, filter, Bool, true, false, cond, Some, None, Option, All, slice_get, refl, sym, ap, ◌∙◌, arith, subst}
use Rattle.std.specs.List.{position_from}
use Rattle.std.specs.Option.{option_or}
use Rattle.std.proofs.Math.Seq.{get_or-append_seam, take-append_seam}
use Rattle.std.specs.List.Sorted.{IsPartitionPoint}
use Rattle.std.proofs.lemmas.List.{append-nil, get_or-drop, get_or-take, length-append, length-drop, length-take, take-append-drop}
use Rattle.std.proofs.lemmas.List.Elements.{All-get_or, All-head, All-tail, All-take, filter-append}
use Rattle.feed_values.specs.Meaning.{last_of}

pub slice_get-left : {A : Type 0} (xs ys : List A) (i : ℕ) → i < length xs → slice_get (xs ++ ys) i ≡ slice_get xs i
slice_get-left [] ys i h = absurd (omega arith)
slice_get-left (x ∷ xs) ys zero h = refl
slice_get-left (x ∷ xs) ys (suc i) h = slice_get-left xs ys i (omega arith)

pub slice_get-seam : {A : Type 0} (xs : List A) (y : A) → slice_get (xs ++ y ∷ []) (length xs) ≡ Some y
slice_get-seam [] y = refl
slice_get-seam (x ∷ xs) y = slice_get-seam xs y

pub some_within : {A : Type 0} (xs : List A) (i : ℕ) → i < length xs → (x : A) × (slice_get xs i ≡ Some x)
some_within [] i h = absurd (omega arith)
some_within (x ∷ xs) zero h = (x, refl)
some_within (x ∷ xs) (suc i) h = some_within xs i (omega arith)

-- what holds of all holds of the front, and of the last
pub All-front : {A : Type 0} (P : A → Type 0) (xs ys : List A) → All P (xs ++ ys) → All P xs
All-front P xs ys all = subst (All P) (take-append_seam xs ys) (All-take P (length xs) (xs ++ ys) all)

pub All-last : {A : Type 0} (P : A → Type 0) (xs : List A) (y : A) → All P (xs ++ y ∷ []) → P y
All-last P xs y all =
    let within : length xs < length (xs ++ y ∷ []) = let e = length-append xs (y ∷ []) in omega (arith, e) in
    subst P (get_or-append_seam xs y [] y) (All-get_or P (xs ++ y ∷ []) (length xs) y within all)

-- ---- the last of a list
or_some : {A : Type 0} (o : Option A) (y x : A) → option_or (option_or o (Some y)) (Some x) ≡ option_or o (Some y)
or_some None y x = refl
or_some (Some z) y x = refl

last_of-cons : {A : Type 0} (x y : A) (ys : List A) → last_of (x ∷ y ∷ ys) ≡ last_of (y ∷ ys)
last_of-cons x y ys = or_some (last_of ys) y x

last_of-index : {A : Type 0} (xs : List A) (i : ℕ) → length xs ≡ i + 1 → last_of xs ≡ slice_get xs i
last_of-index [] i h = absurd (omega arith)
last_of-index (x ∷ []) zero h = refl
last_of-index (x ∷ []) (suc i) h = absurd (omega arith)
last_of-index (x ∷ y ∷ ys) zero h = absurd (omega arith)
last_of-index (x ∷ y ∷ ys) (suc i) h = last_of-cons x y ys ∙ last_of-index (y ∷ ys) i (omega arith)

pub last_of-at : {A : Type 0} (xs : List A) → last_of xs ≡ slice_get xs (length xs - 1)
last_of-at [] = refl
last_of-at (x ∷ xs) = last_of-index (x ∷ xs) (length (x ∷ xs) - 1) (omega arith)

-- ---- the first place that passes, after one more item
pub position_from-push : {A : Type 0} (p : A → Bool) (i : ℕ) (xs : List A) (y : A)
    → position_from p i (xs ++ y ∷ []) ≡ option_or (position_from p i xs) (cond (p y) (Some (i + length xs)) None)
position_from-push p i [] y = let e : i + 0 ≡ i = omega arith in rw e refl
position_from-push p i (x ∷ xs) y = by_test (p x)
    (let e : i + 1 + length xs ≡ i + suc (length xs) = omega arith in rw (position_from-push p (i + 1) xs y, e) refl)
  where
    by_test : (b : Bool) → position_from p (i + 1) (xs ++ y ∷ []) ≡ option_or (position_from p (i + 1) xs) (cond (p y) (Some (i + suc (length xs))) None)
        → cond b (Some i) (position_from p (i + 1) (xs ++ y ∷ [])) ≡ option_or (cond b (Some i) (position_from p (i + 1) xs)) (cond (p y) (Some (i + suc (length xs))) None)
    by_test true h = refl
    by_test false h = h

-- ---- filters
pub filter-all : {A : Type 0} (p : A → Bool) (xs : List A) → All (λ x. p x ≡ true) xs → filter p xs ≡ xs
filter-all p [] all = refl
filter-all p (x ∷ xs) all = rw (All-head (λ y. p y ≡ true) x xs all) (ap (λ l. x ∷ l) (filter-all p xs (All-tail (λ y. p y ≡ true) x xs all)))

pub filter-none : {A : Type 0} (p : A → Bool) (xs : List A) → All (λ x. p x ≡ false) xs → filter p xs ≡ []
filter-none p [] all = refl
filter-none p (x ∷ xs) all = rw (All-head (λ y. p y ≡ false) x xs all) (filter-none p xs (All-tail (λ y. p y ≡ false) x xs all))

-- what passes stands in front
pub filter-parts : {A : Type 0} (p : A → Bool) (xs ys : List A) → All (λ x. p x ≡ true) xs → All (λ x. p x ≡ false) ys → filter p (xs ++ ys) ≡ xs
filter-parts p xs ys pass fail = filter-append p xs ys ∙ ap (λ l. l ++ filter p ys) (filter-all p xs pass) ∙ ap (λ l. xs ++ l) (filter-none p ys fail) ∙ append-nil xs

pub filter-point : {A : Type 0} (p : A → Bool) (xs : List A) (i : ℕ) → i ≤ length xs → IsPartitionPoint (λ x. p x ≡ true) (λ x. p x ≡ false) xs i → filter p xs ≡ take i xs
filter-point p xs i bound point =
    ap (filter p) (sym (take-append-drop i xs)) ∙ filter-parts p (take i xs) (drop i xs)
    (λ k d within. let size = length-take i xs in
    let low : k < i = omega (arith, within, size, bound) in
    subst (λ x. p x ≡ true) (sym (get_or-take i xs k d low)) (point.0 k d (omega arith) low))
    (λ k d within. let size = length-drop i xs in
    subst (λ x. p x ≡ false) (sym (get_or-drop i xs k d)) (point.1 (i + k) d (omega arith) (omega (arith, within, size, bound))))
