-- Stretches of texts, with one more.
use Rattle.std.proofs.Common.{◌≡◌, ◌+◌, ℕ, not, List, [], ◌∷◌, ◌++◌, Some, refl, ap, arith}
use Rattle.std.specs.Str.{bytes_eq}
use Rattle.rule_tally.specs.declared.first_line.Behind.{Behind}
use Rattle.rule_tally.specs.declared.first_line.FirstLine.{FirstLine}
use Rattle.rule_tally.specs.Tallies.{changes, first_line, first_of, is_last, kept, last_behind, last_of, one_if, stretches}

-- one more stretch where a text isn't the last one
pub changes-push : (before : List ℕ) (ts : List (List ℕ)) (t : List ℕ) → changes before (ts ++ t ∷ []) ≡ changes before ts + one_if (not (bytes_eq (last_behind before ts) t))
changes-push before [] t = omega arith
changes-push before (u ∷ ts) t = let h = changes-push u ts t in omega (arith, h)

pub stretches-push : (ts : List (List ℕ)) (t : List ℕ) → stretches (ts ++ t ∷ []) ≡ stretches ts + one_if (not (is_last (last_of ts) t))
stretches-push [] t = refl
stretches-push (u ∷ ts) t = let h = changes-push u ts t in omega (arith, h)

last_behind-push : (before : List ℕ) (ts : List (List ℕ)) (t : List ℕ) → last_behind before (ts ++ t ∷ []) ≡ t
last_behind-push before [] t = refl
last_behind-push before (u ∷ ts) t = last_behind-push u ts t

pub last_of-push : (ts : List (List ℕ)) (t : List ℕ) → last_of (ts ++ t ∷ []) ≡ Some t
last_of-push [] t = refl
last_of-push (u ∷ ts) t = ap Some (last_behind-push u ts t)

pub first_of-push : (ts : List FirstLine) (behind : Behind) (line : List ℕ) → first_of (ts ++ first_line behind line ∷ []) ≡ kept (first_of ts) behind line
first_of-push [] behind line = refl
first_of-push (u ∷ ts) behind line = refl
