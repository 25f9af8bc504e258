-- Lists with one item more.
use Rattle.std.proofs.Common.{◌≡◌, ◌+◌, ◌<◌, ◌≤◌, ℕ, Bool, true, false, List, [], ◌∷◌, ◌++◌, cond, length, nat_lt, take, Option, Some, None, refl, sym, arith, append-nil, length-append, length-take-le, take_all}
use Rattle.std.proofs.lemmas.Bool.Decides.{nat_tests}
use Rattle.std.proofs.lemmas.List.{take-append-le}
use Rattle.std.proofs.lemmas.List.Elements.{filter_map-append}
use Rattle.std.specs.List.{filter_map}

-- one more of the first few
few : {A : Type 0} (n : ℕ) (xs : List A) (x : A) → length xs < n → cond (nat_lt (length (take n xs)) n) (take n xs ++ x ∷ []) (take n xs) ≡ take n (xs ++ x ∷ [])
few n xs x h =
    let whole : take n xs ≡ xs = take_all n xs (omega (arith, h)) in
    let more : length (xs ++ x ∷ []) ≡ length xs + 1 = length-append xs (x ∷ []) in
    let is : nat_lt (length xs) n ≡ true = grind (arith, nat_tests, h) in
    rw (whole, is) (sym (take_all n (xs ++ x ∷ []) (omega (arith, h, more))))

many : {A : Type 0} (n : ℕ) (xs : List A) (x : A) → n ≤ length xs → cond (nat_lt (length (take n xs)) n) (take n xs ++ x ∷ []) (take n xs) ≡ take n (xs ++ x ∷ [])
many n xs x h =
    let len : length (take n xs) ≡ n = length-take-le n xs h in
    let isnt : nat_lt n n ≡ false = grind (arith, nat_tests) in
    rw (len, isnt) (sym (take-append-le n xs (x ∷ []) h))

pub one_more : {A : Type 0} (n : ℕ) (xs : List A) (x : A) → cond (nat_lt (length (take n xs)) n) (take n xs ++ x ∷ []) (take n xs) ≡ take n (xs ++ x ∷ [])
one_more n xs x = by (nat_lt (length xs) n) refl
  where
    by : (b : Bool) → nat_lt (length xs) n ≡ b → cond (nat_lt (length (take n xs)) n) (take n xs ++ x ∷ []) (take n xs) ≡ take n (xs ++ x ∷ [])
    by true h = few n xs x (grind (arith, nat_tests, h))
    by false h = many n xs x (grind (arith, nat_tests, h))

-- what is given of one more
pub none_given : {A B : Type 0} (h : A → Option B) (xs : List A) (x : A) → h x ≡ None → filter_map h xs ≡ filter_map h (xs ++ x ∷ [])
none_given h xs x none = rw (filter_map-append h xs (x ∷ []), none) (sym (append-nil (filter_map h xs)))

pub one_given : {A B : Type 0} (h : A → Option B) (xs : List A) (x : A) (y : B) → h x ≡ Some y → filter_map h xs ++ y ∷ [] ≡ filter_map h (xs ++ x ∷ [])
one_given h xs x y some = rw (filter_map-append h xs (x ∷ []), some) refl
