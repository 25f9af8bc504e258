-- Timestamps and byte strings of snapshots that are the same are equal.
use Rattle.std.specs.Prelude.{◌≡◌, ℕ, ℤ, true, false, not, List, Option, Some, None, refl, bytes_eq}
use Rattle.std.proofs.Common.{sym, ap}
use Rattle.std.proofs.lemmas.Bool.{not-false}
use Rattle.std.proofs.lemmas.Bool.Decides.{Decides-int_eq}
use Rattle.std.proofs.lemmas.Slice.Eq.{bytes_eq-Decides}
use Rattle.rule_history.specs.Changed.{is_payload, same_number}

pub same_numbers : (a b : Option ℤ) → same_number a b ≡ true → a ≡ b
same_numbers None None h = refl
same_numbers None (Some b) h = cc
same_numbers (Some a) None h = cc
same_numbers (Some a) (Some b) h = ap Some ((Decides-int_eq a b).0 h)

-- a byte string that isn't another than what is there
pub same_payload : (p : List ℕ) (o : Option (List ℕ)) → not (is_payload p o) ≡ false → o ≡ Some p
same_payload p None h = cc
same_payload p (Some q) h = ap Some (sym ((bytes_eq-Decides p q).0 (not-false (bytes_eq p q) h)))
