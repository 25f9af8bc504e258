-- Facts at the end of a list.
use Rattle.std.specs.Prelude.{◌≡◌, ℕ, zero, suc, ◌≤◌, ◌==◌, false, List, [], ◌∷◌, drop, length, refl}
use Rattle.std.proofs.Common.{sym, ap, ◌∙◌, arith}
use Rattle.std.proofs.lemmas.Bool.Decides.{nat_tests}
use Rattle.std.proofs.lemmas.List.{drop_all}
use Rattle.rule_table.specs.declared.fact.Fact.{Fact}
use Rattle.rule_table.specs.SameFacts.{same_facts}

none_left : (i : ℕ) (b : List Fact) → i ≤ length b → same_facts [] (drop i b) ≡ (i == length b)
none_left zero [] l = refl
none_left zero (x ∷ b) l = far (length b)
  where
    far : (n : ℕ) → false ≡ (zero == suc n)
    far n = grind (arith, nat_tests)
none_left (suc i) [] l = absurd (none i l)
  where
    none : (i : ℕ) → suc i ≤ 0 → ⊥
    none i l = omega (arith, l)
none_left (suc i) (x ∷ b) l = none_left i b (less i (length b) l) ∙ same i (length b)
  where
    less : (i n : ℕ) → suc i ≤ suc n → i ≤ n
    less i n l = omega (arith, l)

    same : (i n : ℕ) → (i == n) ≡ (suc i == suc n)
    same i n = grind (arith, nat_tests)

pub facts_end : (a b : List Fact) (i : ℕ) → length a ≤ i → i ≤ length a → i ≤ length b → same_facts (drop i a) (drop i b) ≡ same_facts a b → (length a == length b) ≡ same_facts a b
facts_end a b i h k l e =
    ap (λ n. n == length b) (equal (length a) i h k) ∙ sym (none_left i b l) ∙ ap (λ xs. same_facts xs (drop i b)) (sym (drop_all i a h)) ∙ e
  where
    equal : (m n : ℕ) → m ≤ n → n ≤ m → m ≡ n
    equal m n h k = omega arith
