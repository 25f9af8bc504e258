-- What a merge has where a test is true of one of its lists alone.
use Rattle.std.specs.Prelude.{◌≡◌, nat_le, Bool, true, false, cond, List, [], ◌∷◌, filter, refl}
use Rattle.std.proofs.Common.{ap, ◌∙◌}
use Rattle.rule_history.specs.Standing.{Standing}
use Rattle.standing_walks.specs.Merged.{number, with_first, merged}

module _ (p : Standing → Bool) where
  none_first : (y : Standing) (ys : List Standing) → filter p (y ∷ ys) ≡ [] → (p y ≡ false) × (filter p ys ≡ [])
  none_first y ys h = elim (p y) as (λ b. p y ≡ b → cond b (y ∷ filter p ys) (filter p ys) ≡ [] → (p y ≡ false) × (filter p ys ≡ [])) [ true ↦ λ e q. cc | false ↦ λ e q. (e, q) ] refl h

  passed : (y : Standing) (ys : List Standing) → p y ≡ false → filter p (y ∷ ys) ≡ filter p ys
  passed y ys e = ap (λ b. cond b (y ∷ filter p ys) (filter p ys)) e

  put : (x : Standing) (xs ys : List Standing) → filter p xs ≡ filter p ys → filter p (x ∷ xs) ≡ filter p (x ∷ ys)
  put x xs ys e = ap (λ zs. cond (p x) (x ∷ zs) zs) e

  left_first : (x : Standing) (xs : List Standing) → ((ys : List Standing) → filter p ys ≡ [] → filter p (merged xs ys) ≡ filter p xs) → (ys : List Standing) → filter p ys ≡ [] → filter p (with_first x (merged xs) ys) ≡ filter p (x ∷ xs)
  left_first x xs rest [] h = put x (merged xs []) xs (rest [] h)
  left_first x xs rest (y ∷ ys) h =
      let n = none_first y ys h in
      elim (nat_le (number x) (number y)) as (λ b. filter p (cond b (x ∷ merged xs (y ∷ ys)) (y ∷ with_first x (merged xs) ys)) ≡ filter p (x ∷ xs)) [
        | true ↦ put x (merged xs (y ∷ ys)) xs (rest (y ∷ ys) h)
        | false ↦ passed y (with_first x (merged xs) ys) n.0 ∙ left_first x xs rest ys n.1
      ]

  -- that of the left list, where the right one has nothing
  pub left_alone : (xs ys : List Standing) → filter p ys ≡ [] → filter p (merged xs ys) ≡ filter p xs
  left_alone [] ys h = h
  left_alone (x ∷ xs) ys h = left_first x xs (left_alone xs) ys h

  right_first : (x : Standing) (xs : List Standing) → p x ≡ false → ((ys : List Standing) → filter p (merged xs ys) ≡ filter p ys) → (ys : List Standing) → filter p (with_first x (merged xs) ys) ≡ filter p ys
  right_first x xs e rest [] = passed x (merged xs []) e ∙ rest []
  right_first x xs e rest (y ∷ ys) =
      elim (nat_le (number x) (number y)) as (λ b. filter p (cond b (x ∷ merged xs (y ∷ ys)) (y ∷ with_first x (merged xs) ys)) ≡ filter p (y ∷ ys)) [
        | true ↦ passed x (merged xs (y ∷ ys)) e ∙ rest (y ∷ ys)
        | false ↦ put y (with_first x (merged xs) ys) ys (right_first x xs e rest ys)
      ]

  -- that of the right list, where the left one has nothing
  pub right_alone : (xs ys : List Standing) → filter p xs ≡ [] → filter p (merged xs ys) ≡ filter p ys
  right_alone [] ys h = refl
  right_alone (x ∷ xs) ys h = let n = none_first x xs h in right_first x xs n.0 (λ zs. right_alone xs zs n.1) ys

  -- nothing, where neither has anything
  pub neither : (xs ys : List Standing) → filter p xs ≡ [] → filter p ys ≡ [] → filter p (merged xs ys) ≡ []
  neither xs ys h k = left_alone xs ys k ∙ h
