-- Numbers that JSON may hold are read back.
use Rattle.std.proofs.Common.{◌≡◌, ℕ, ◌≤◌, ℤ, pos, negsuc, zero, suc, Bool, true, false, ◌||◌, ◌&&◌, ◌⊎◌, inl, inr, eqb, leb, List, Some, Ok, refl, arith}
use Rattle.std.specs.Prelude.{FitsSigned}
use Rattle.std.specs.Int.{w32, w64}
use Rattle.std.proofs.lemmas.Bool.{eq-eqb, le-leb}
use Rattle.std.proofs.lemmas.Int.{ints}
use Rattle.feed_values.specs.Schema as schema
use Rattle.feed_values.specs.Schema.{Scalar}
use Rattle.feed_json.specs.Form.{scalar_form}
use Rattle.feed_json.specs.Unform.{natural_in, natural_or_in, signed_in, scalar_of, last_number}
use Rattle.feed_json.specs.Holds.{InJson}

pub natural_again : (low high n : ℕ) → low ≤ n → n ≤ high → natural_in low high (pos n) ≡ Some n
natural_again low high n above below = rw (le-leb low n above, le-leb n high below) refl

signed_32 : (z : ℤ) → FitsSigned w32 z → signed_in (negsuc 2147483647) (pos 2147483647) z ≡ Some z
signed_32 z fits = grind (arith, ints)

signed_64 : (z : ℤ) → FitsSigned w64 z → signed_in (negsuc 9223372036854775807) (pos 9223372036854775807) z ≡ Some z
signed_64 z fits = grind (arith, ints)

or_true : (a b : Bool) → b ≡ true → (a || b) ≡ true
or_true true b e = refl
or_true false b e = e

one_more_again : (low high more n : ℕ) → ((low ≤ n) × (n ≤ high)) ⊎ (n ≡ more) → natural_or_in low high more (pos n) ≡ Some n
one_more_again low high more n (inl h) = rw (le-leb low n h.0, le-leb n high h.1) refl
one_more_again low high more n (inr e) = rw (or_true (leb low n && leb n high) (eqb n more) (eq-eqb n more e)) refl

pub scalar_again : (key : List ℕ) (t : Scalar) (z : ℤ) → InJson key t z → scalar_of key t (scalar_form t z) ≡ Ok z
scalar_again key schema.Bool (pos zero) h = refl
scalar_again key schema.Bool (pos (suc zero)) h = refl
scalar_again key schema.Bool (pos (suc (suc n))) h = absurd (omega arith)
scalar_again key schema.Bool (negsuc n) h = absurd h
scalar_again key schema.U32 (pos n) h = rw (natural_again 0 4294967295 n (omega arith) (omega arith)) refl
scalar_again key schema.U32 (negsuc n) h = absurd h
scalar_again key schema.I32 (pos n) h = rw (signed_32 (pos n) h) refl
scalar_again key schema.I32 (negsuc n) h = rw (signed_32 (negsuc n) h) refl
scalar_again key schema.U64 (pos n) h = rw (natural_again 0 18446744073709551615 n (omega arith) (omega arith)) refl
scalar_again key schema.U64 (negsuc n) h = absurd h
scalar_again key schema.I64 (pos n) h = rw (signed_64 (pos n) h) refl
scalar_again key schema.I64 (negsuc n) h = rw (signed_64 (negsuc n) h) refl
scalar_again key schema.Bits32 (pos n) h = rw (natural_again 0 4294967295 n (omega arith) (omega arith)) refl
scalar_again key schema.Bits32 (negsuc n) h = absurd h
scalar_again key schema.Bits64 (pos n) h = rw (natural_again 0 18446744073709551615 n (omega arith) (omega arith)) refl
scalar_again key schema.Bits64 (negsuc n) h = absurd h
scalar_again key (schema.Enum first last) (pos n) h = rw (natural_again first (last_number key last) n h.0 h.1) refl
scalar_again key (schema.Enum first last) (negsuc n) h = absurd h
scalar_again key (schema.EnumOr first last more) (pos n) h = rw (one_more_again first last more n h.0) refl
scalar_again key (schema.EnumOr first last more) (negsuc n) h = absurd h
