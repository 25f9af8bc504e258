-- Trimming at the back, from the back.
use Rattle.std.proofs.lemmas.List.{drop_all, take-append-drop}
use Rattle.std.proofs.Common.{◌≡◌, ◌≤◌, ◌-◌, ℕ, suc, List, [], ◌∷◌, ◌++◌, length, take, drop, drop-cons, get_or, arith, true, false, refl, sym, ap, ◌∙◌}
use Rattle.schedule_rows.specs.Fields.{before_rest, is_blank, trim_back}

-- a blank at the back goes
pub trim_back-blank : (xs : List ℕ) (b : ℕ) → is_blank b ≡ true → trim_back (xs ++ b ∷ []) ≡ trim_back xs
trim_back-blank [] b e = rw e
trim_back-blank (x ∷ xs) b e = ap (before_rest x) (trim_back-blank xs b e)

before_some : (x : ℕ) (xs : List ℕ) (b : ℕ) → before_rest x (xs ++ b ∷ []) ≡ x ∷ (xs ++ b ∷ [])
before_some x [] b = refl
before_some x (y ∷ ys) b = refl

-- another byte at the back stays
pub trim_back-other : (xs : List ℕ) (b : ℕ) → is_blank b ≡ false → trim_back (xs ++ b ∷ []) ≡ xs ++ b ∷ []
trim_back-other [] b e = rw e
trim_back-other (x ∷ xs) b e = ap (before_rest x) (trim_back-other xs b e) ∙ before_some x xs b

last_of : (xs : List ℕ) → 1 ≤ length xs → take (length xs - 1) xs ++ get_or xs (length xs - 1) 0 ∷ [] ≡ xs
last_of xs h =
    let rest : drop (suc (length xs - 1)) xs ≡ [] = drop_all (suc (length xs - 1)) xs (omega arith) in
    rw rest at (ap (λ l. take (length xs - 1) xs ++ l) (sym (drop-cons xs (length xs - 1) 0 (omega arith))) ∙ take-append-drop (length xs - 1) xs)

pub trim_back-last : (xs : List ℕ) → 1 ≤ length xs → is_blank (get_or xs (length xs - 1) 0) ≡ true → trim_back (take (length xs - 1) xs) ≡ trim_back xs
trim_back-last xs h e = sym (trim_back-blank (take (length xs - 1) xs) _ e) ∙ ap trim_back (last_of xs h)

pub trim_back-kept : (xs : List ℕ) → 1 ≤ length xs → is_blank (get_or xs (length xs - 1) 0) ≡ false → xs ≡ trim_back xs
trim_back-kept xs h e = sym (last_of xs h) ∙ sym (trim_back-other (take (length xs - 1) xs) _ e) ∙ ap trim_back (last_of xs h)
