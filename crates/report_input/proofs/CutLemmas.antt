-- The lines of a text with one byte more.
use Rattle.std.proofs.Common.{◌≡◌, ◌+◌, ◌<◌, ◌==◌, ℕ, Bool, true, false, List, [], ◌∷◌, ◌++◌, cond, length, slice_index_or, take, refl, sym, ap, ◌∙◌, append_assoc}
use Rattle.std.proofs.lemmas.List.{take_more}
use Rattle.report_input.specs.Lines.{rest_behind, whole_lines}

-- ---- in both cases
cut_both : (x : Bool) (a b c d : List (List ℕ)) (r s : List ℕ) → a ≡ c ++ r ∷ [] → b ≡ d ++ s ∷ [] → cond x a b ≡ cond x c d ++ cond x r s ∷ []
cut_both true a b c d r s h k = h
cut_both false a b c d r s h k = k

same_both : {A : Type 0} (x : Bool) (a b c d : A) → a ≡ c → b ≡ d → cond x a b ≡ cond x c d
same_both true a b c d h k = h
same_both false a b c d h k = k

one_both : {A : Type 0} (x : Bool) (a b c : A) → a ≡ c → b ≡ c → cond x a b ≡ c
one_both true a b c h k = h
one_both false a b c h k = k

more_both : (x : Bool) (a b c d t : List ℕ) → a ≡ c ++ t → b ≡ d ++ t → cond x a b ≡ cond x c d ++ t
more_both true a b c d t h k = h
more_both false a b c d t h k = k

-- ---- a line feed ends a line
pub whole-feed : (front came : List ℕ) → whole_lines front (came ++ 10 ∷ []) ≡ whole_lines front came ++ rest_behind front came ∷ []
whole-feed front [] = refl
whole-feed front (byte ∷ came) = cut_both (byte == 10) _ _ _ _ _ _ (ap (λ lines. front ∷ lines) (whole-feed [] came)) (whole-feed (front ++ byte ∷ []) came)

pub rest-feed : (front came : List ℕ) → rest_behind front (came ++ 10 ∷ []) ≡ []
rest-feed front [] = refl
rest-feed front (byte ∷ came) = one_both (byte == 10) _ _ [] (rest-feed [] came) (rest-feed (front ++ byte ∷ []) came)

-- ---- another byte doesn't
pub whole-other : (front came : List ℕ) (b : ℕ) → (b == 10) ≡ false → whole_lines front (came ++ b ∷ []) ≡ whole_lines front came
whole-other front [] b h = rw h refl
whole-other front (byte ∷ came) b h = same_both (byte == 10) _ _ _ _ (ap (λ lines. front ∷ lines) (whole-other [] came b h)) (whole-other (front ++ byte ∷ []) came b h)

pub rest-other : (front came : List ℕ) (b : ℕ) → (b == 10) ≡ false → rest_behind front (came ++ b ∷ []) ≡ rest_behind front came ++ b ∷ []
rest-other front [] b h = rw h refl
rest-other front (byte ∷ came) b h = more_both (byte == 10) _ _ _ _ (b ∷ []) (rest-other [] came b h) (rest-other (front ++ byte ∷ []) came b h)

-- ---- a piece, byte by byte
pub one_longer : (before piece : List ℕ) (i d : ℕ) → i < length piece → (before ++ take i piece) ++ slice_index_or piece i d ∷ [] ≡ before ++ take (i + 1) piece
one_longer before piece i d h = append_assoc before (take i piece) (slice_index_or piece i d ∷ []) ∙ ap (λ bytes. before ++ bytes) (sym (take_more piece i d h))
