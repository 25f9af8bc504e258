-- Lists that are made one item after the other.
use Rattle.std.proofs.Common.{◌≡◌, ℕ, zero, suc, ◌+◌, ◌<◌, List, [], ◌∷◌, ◌++◌, length, drop, get_or, map, sym, ap, subst, ◌∙◌, append_assoc, add-one, arith}
use Rattle.std.proofs.lemmas.List.{drop_more, append-nil}
use Rattle.std.specs.List.{flat_map, range_with_len, enumerate_from, AllByRecursion}

rows_from : {A : Type 0} (f : ℕ → List A) (a n j : ℕ) → a + n ≡ j
    → flat_map f (range_with_len a (suc n)) ≡ flat_map f (range_with_len a n) ++ f j
rows_from f a zero j at = let same : a ≡ j = omega arith in append-nil (f a) ∙ ap f same
rows_from f a (suc n) j at =
    ap (λ l. f a ++ l) (rows_from f (a + 1) n j (omega arith)) ∙ sym (append_assoc (f a) (flat_map f (range_with_len (a + 1) n)) (f j))

-- what a function makes of the numbers below one more
pub rows_more : {A : Type 0} (f : ℕ → List A) (k : ℕ) → flat_map f (range_with_len 0 (k + 1)) ≡ flat_map f (range_with_len 0 k) ++ f k
rows_more f k = rw add-one (rows_from f 0 k k (omega arith))

-- of a list that is taken item by item with their numbers: one more is made, and all are
pub one_made : {A B : Type 0} (f : ℕ → A → B) (made : List B) (xs : List A) (k : ℕ) (x : A) (whole : List B)
    → k < length xs → x ≡ get_or xs k x
    → made ++ map (λ e. f e.0 e.1) (enumerate_from k (drop k xs)) ≡ whole
    → (made ++ f k x ∷ []) ++ map (λ e. f e.0 e.1) (enumerate_from (k + 1) (drop (k + 1) xs)) ≡ whole
one_made f made xs k x whole within at before =
    let next : drop k xs ≡ x ∷ drop (k + 1) xs = drop_more xs k x within ∙ ap (λ y. y ∷ drop (k + 1) xs) (sym at) in
    append_assoc made (f k x ∷ []) (map (λ e. f e.0 e.1) (enumerate_from (k + 1) (drop (k + 1) xs)))
    ∙ subst (λ l. made ++ map (λ e. f e.0 e.1) (enumerate_from k l) ≡ whole) next before

-- what holds of all holds of the item at a place
pub all_at : {A : Type 0} (P : A → Type 0) (xs : List A) (k : ℕ) (d : A) → k < length xs → AllByRecursion P xs → P (get_or xs k d)
all_at P [] k d within all = absurd (omega arith)
all_at P (x ∷ xs) zero d within all = all.0
all_at P (x ∷ xs) (suc k) d within all = all_at P xs k d (omega arith) all.1
