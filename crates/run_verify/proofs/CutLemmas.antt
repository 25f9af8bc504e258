-- The first line of a text, and the rest.
use Rattle.std.proofs.Common.{◌≡◌, ◌<◌, ◌≤◌, ◌+◌, ◌-◌, ◌==◌, ℕ, suc, Bool, true, false, cond, List, [], ◌∷◌, ◌++◌, length, take, drop, Some, None, position, nat_lt, refl, sym, ap, ◌∙◌, subst, arith, append_assoc, append-nil, length-append, length-drop}
use Rattle.std.specs.List.{position_or_len}
use Rattle.std.proofs.Math.Seq.{take-length}
use Rattle.std.proofs.lemmas.Bool.{ltb-false, ltb-true}
use Rattle.std.proofs.lemmas.Option.{same_Some}
use Rattle.run_verify.specs.Lines.{last_line, lines_behind, lines_in}

abbrev feed : ℕ → Bool
feed byte = byte == 10

-- ---- where a line feed is
abbrev IsCut : List ℕ → List ℕ → ℕ → Type 0
IsCut front text n = lines_behind front text ≡ (front ++ take n text) ∷ lines_in (drop (n + 1) text)

cut_at : (front xs : List ℕ) (k : ℕ) → k ≡ position_or_len feed xs → k < length xs → lines_behind front xs ≡ (front ++ take k xs) ∷ lines_in (drop (k + 1) xs)
cut_at front [] k e h = absurd (omega arith)
cut_at front (x ∷ xs) k e h = by (feed x) refl (λ l. cut_at (front ++ x ∷ []) xs (position_or_len feed xs) refl l)
  where
    chosen : (b : Bool) → feed x ≡ b → lines_behind front (x ∷ xs) ≡ cond b (front ∷ lines_behind [] xs) (lines_behind (front ++ x ∷ []) xs)
    chosen b e = ap (λ c. cond c (front ∷ lines_behind [] xs) (lines_behind (front ++ x ∷ []) xs)) e

    by : (b : Bool) → feed x ≡ b
        → (position_or_len feed xs < length xs → lines_behind (front ++ x ∷ []) xs ≡ ((front ++ x ∷ []) ++ take (position_or_len feed xs) xs) ∷ lines_in (drop (position_or_len feed xs + 1) xs)) → IsCut front (x ∷ xs) k
    by true b more =
        let z : k ≡ 0 = e ∙ rw b refl in
        subst (IsCut front (x ∷ xs)) (sym z) (chosen true b ∙ ap (λ f. f ∷ lines_in xs) (sym (append-nil front)))
    by false b more =
        let m : ℕ = position_or_len feed xs in
        let z : k ≡ suc m = e ∙ rw b (omega arith) in
        let next : suc (m + 1) ≡ suc m + 1 = omega arith in
        subst (IsCut front (x ∷ xs)) (sym z)
        (chosen false b ∙ more (omega (arith, z, h)) ∙ ap (λ f. f ∷ lines_in (drop (m + 1) xs)) (append_assoc front (x ∷ []) (take m xs))
        ∙ ap (λ j. (front ++ x ∷ take m xs) ∷ lines_in (drop j (x ∷ xs))) next)

-- ---- where none is
uncut : (front xs : List ℕ) → length xs ≤ position_or_len feed xs → lines_behind front xs ≡ last_line (front ++ xs)
uncut front [] h = ap last_line (sym (append-nil front))
uncut front (x ∷ xs) h = by (feed x) refl (λ l. uncut (front ++ x ∷ []) xs l)
  where
    by : (b : Bool) → feed x ≡ b → (length xs ≤ position_or_len feed xs → lines_behind (front ++ x ∷ []) xs ≡ last_line ((front ++ x ∷ []) ++ xs)) → lines_behind front (x ∷ xs) ≡ last_line (front ++ x ∷ xs)
    by true b more = let z : position_or_len feed (x ∷ xs) ≡ 0 = rw b refl in absurd (omega (arith, z, h))
    by false b more =
        let z : position_or_len feed (x ∷ xs) ≡ suc (position_or_len feed xs) = rw b (omega arith) in
        ap (λ c. cond c (front ∷ lines_behind [] xs) (lines_behind (front ++ x ∷ []) xs)) b ∙ more (omega (arith, z, h)) ∙ ap last_line (append_assoc front (x ∷ []) xs)

-- ---- in the code
found : (xs : List ℕ) (at : ℕ) (b : Bool) → nat_lt (position_or_len feed xs) (length xs) ≡ b → Some at ≡ cond b (Some (position_or_len feed xs)) None → (at ≡ position_or_len feed xs) × (at < length xs)
found xs at true e h =
    let same : at ≡ position_or_len feed xs = same_Some at (position_or_len feed xs) h in
    (same, subst (λ k. k < length xs) (sym same) (ltb-true (position_or_len feed xs) (length xs) e))
found xs at false e h = absurd (cc)

rest_is : (xs : List ℕ) (i : ℕ) → take (length xs - i) (drop i xs) ≡ drop i xs
rest_is xs i = ap (λ n. take n (drop i xs)) (sym (length-drop i xs)) ∙ take-length (drop i xs)

pub lines_cut : (text : List ℕ) (at : ℕ) → Some at ≡ position (λ byte. byte == 10) text → lines_in text ≡ take at text ∷ lines_in (take (length text - (at + 1)) (drop (at + 1) text))
lines_cut text at h =
    let is = found text at (nat_lt (position_or_len feed text) (length text)) refl h in
    cut_at [] text at is.0 is.1 ∙ ap (λ rest. take at text ∷ lines_in rest) (sym (rest_is text (at + 1)))

missing : (xs : List ℕ) (b : Bool) → nat_lt (position_or_len feed xs) (length xs) ≡ b → None ≡ cond b (Some (position_or_len feed xs)) None → length xs ≤ position_or_len feed xs
missing xs true e h = absurd (cc)
missing xs false e h = ltb-false (position_or_len feed xs) (length xs) e

one_line : (text : List ℕ) → 0 < length text → last_line text ≡ text ∷ []
one_line [] h = absurd (omega arith)
one_line (byte ∷ bytes) h = refl

pub lines_uncut : (text : List ℕ) → 0 < length text → None ≡ position (λ byte. byte == 10) text → lines_in text ≡ text ∷ []
lines_uncut text some h = uncut [] text (missing text (nat_lt (position_or_len feed text) (length text)) refl h) ∙ one_line text some

-- a text has no more lines than bytes
pub few_behind : (front text : List ℕ) → length (lines_behind front text) ≤ length front + length text
few_behind [] [] = omega arith
few_behind (x ∷ front) [] = omega arith
few_behind front (x ∷ xs) = by (feed x) refl (omega (arith, few_behind [] xs)) (few_behind (front ++ x ∷ []) xs)
  where
    by : (b : Bool) → feed x ≡ b → length (lines_behind [] xs) ≤ length xs → length (lines_behind (front ++ x ∷ []) xs) ≤ length (front ++ x ∷ []) + length xs
        → length (lines_behind front (x ∷ xs)) ≤ length front + length (x ∷ xs)
    by true b one more = rw b (omega (arith, one))
    by false b one more = rw b (omega (arith, more, length-append front (x ∷ [])))
