-- Tests over lists.
use Rattle.std.specs.Prelude.{◌≡◌, Bool, true, false, cond, ◌&&◌, ◌||◌, List, [], ◌∷◌, filter, refl}
use Rattle.std.specs.List.{list_any, flat_map}
use Rattle.std.proofs.Common.{sym, ap, ◌∙◌}
use Rattle.std.proofs.Math.Bool.{and-true, and-false, or_assoc}
use Rattle.std.proofs.lemmas.List.Folds.{list_any-append}
use Rattle.rule_table.specs.Groups.{Each}

pub any_none : {A : Type 0} (p : A → Bool) (xs : List A) → Each (λ x. p x ≡ false) xs → list_any p xs ≡ false
any_none p [] h = refl
any_none p (x ∷ xs) h = ap (λ b. b || list_any p xs) h.0 ∙ any_none p xs h.1

pub any_false : {A : Type 0} (xs : List A) → list_any (λ x. false) xs ≡ false
any_false [] = refl
any_false (x ∷ xs) = any_false xs

pub any-flat : {A B : Type 0} (p : B → Bool) (f : A → List B) (xs : List A) → list_any p (flat_map f xs) ≡ list_any (λ x. list_any p (f x)) xs
any-flat p f [] = refl
any-flat p f (x ∷ xs) = list_any-append p (f x) (flat_map f xs) ∙ ap (λ b. list_any p (f x) || b) (any-flat p f xs)

-- of what passes a filter
pub any-filtered : {A : Type 0} (p t : A → Bool) (xs : List A) → list_any (λ x. p x && t x) xs ≡ list_any p (filter t xs)
any-filtered {A = A} p t [] = refl
any-filtered {A = A} p t (x ∷ xs) = each (t x) (any-filtered p t xs)
  where
    each : (b : Bool) → list_any (λ x. p x && t x) xs ≡ list_any p (filter t xs) → (p x && b || list_any (λ x. p x && t x) xs) ≡ list_any p (cond b (x ∷ filter t xs) (filter t xs))
    each true ih = ap (λ b. b || list_any (λ x. p x && t x) xs) (and-true (p x)) ∙ ap (λ b. p x || b) ih
    each false ih = ap (λ b. b || list_any (λ x. p x && t x) xs) (and-false (p x)) ∙ ih

-- one that is fixed beside another
pub any-and : {A : Type 0} (p : A → Bool) (b : Bool) (xs : List A) → list_any (λ x. p x && b) xs ≡ (list_any p xs && b)
any-and p b [] = refl
any-and p b (x ∷ xs) = ap (λ c. p x && b || c) (any-and p b xs) ∙ shared (p x) (list_any p xs) b
  where
    shared : (a c b : Bool) → (a && b || c && b) ≡ ((a || c) && b)
    shared true true true = refl
    shared true true false = refl
    shared true false true = refl
    shared true false false = refl
    shared false c b = refl

-- two lists gone through, in either order
pub any-turned : {A B : Type 0} (p : A → B → Bool) (xs : List A) (ys : List B) → list_any (λ x. list_any (p x) ys) xs ≡ list_any (λ y. list_any (λ x. p x y) xs) ys
any-turned {B = B} p [] ys = sym (any_false ys)
any-turned {B = B} p (x ∷ xs) ys = ap (λ b. list_any (p x) ys || b) (any-turned p xs ys) ∙ joined (p x) (λ y. list_any (λ x. p x y) xs) ys
  where
    swap : (a b c d : Bool) → ((a || b) || (c || d)) ≡ ((a || c) || (b || d))
    swap true b c d = refl
    swap false true true d = refl
    swap false true false d = refl
    swap false false c d = refl

    joined : (f g : B → Bool) (zs : List B) → (list_any f zs || list_any g zs) ≡ list_any (λ z. f z || g z) zs
    joined f g [] = refl
    joined f g (z ∷ zs) = swap (f z) (list_any f zs) (g z) (list_any g zs) ∙ ap (λ b. (f z || g z) || b) (joined f g zs)

-- ---- items gone through
-- one item done, one less to go
pub one-less : {A : Type 0} (p : A → Bool) (new old all : Bool) (x : A) (xs rest : List A) → new ≡ (old || p x) → xs ≡ x ∷ rest → (old || list_any p xs) ≡ all → (new || list_any p rest) ≡ all
one-less p new old all x xs rest n s h = ap (λ b. b || list_any p rest) n ∙ or_assoc old (p x) (list_any p rest) ∙ ap (λ ys. old || list_any p ys) (sym s) ∙ h
