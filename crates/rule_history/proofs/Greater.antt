-- The greater of two numbers that may be missing.
use Rattle.std.specs.Prelude.{◌≡◌, ℕ, nat_le, Bool, true, false, cond, List, [], ◌∷◌, ◌++◌, Option, Some, None, refl}
use Rattle.std.proofs.Common.{◌∙◌, ap, sym, arith}
use Rattle.std.proofs.lemmas.Bool.Decides.{nat_tests}
use Rattle.rule_table.specs.Peaks.{greater, greatest}

abbrev pub more : ℕ → ℕ → ℕ
more a b = cond (nat_le a b) b a

more_assoc : (a b c : ℕ) → more a (more b c) ≡ more (more a b) c
more_assoc a b c = grind (arith, nat_tests)

more_comm : (a b : ℕ) → more a b ≡ more b a
more_comm a b = grind (arith, nat_tests)

pub greater_none : (a : Option ℕ) → greater a None ≡ a
greater_none None = refl
greater_none (Some a) = refl

pub greater_assoc : (a b c : Option ℕ) → greater a (greater b c) ≡ greater (greater a b) c
greater_assoc None b c = refl
greater_assoc (Some a) None c = refl
greater_assoc (Some a) (Some b) None = refl
greater_assoc (Some a) (Some b) (Some c) = ap (λ (n : ℕ). Some n) (more_assoc a b c)

pub greater_comm : (a b : Option ℕ) → greater a b ≡ greater b a
greater_comm None b = sym (greater_none b)
greater_comm (Some a) None = refl
greater_comm (Some a) (Some b) = ap (λ (n : ℕ). Some n) (more_comm a b)

pub greatest_append : (xs ys : List ℕ) → greatest (xs ++ ys) ≡ greater (greatest xs) (greatest ys)
greatest_append [] ys = refl
greatest_append (n ∷ xs) ys = ap (greater (Some n)) (greatest_append xs ys) ∙ greater_assoc (Some n) (greatest xs) (greatest ys)
