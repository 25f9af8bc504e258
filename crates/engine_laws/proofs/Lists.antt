-- Laws of lists.
use Rattle.std.specs.Prelude.{◌≡◌, ◌<◌, ◌≤◌, ◌||◌, ℕ, zero, suc, Bool, true, false, cond, List, [], ◌∷◌, ◌++◌, map, filter, refl}
use Rattle.std.specs.List.{flat_map, list_any}
use Rattle.std.proofs.Common.{inl, inr, ap, ◌∙◌, arith, subst, sym}
use Rattle.std.proofs.Math.Nat.{eq-or-lt_of_le}
use Rattle.std.proofs.lemmas.List.{map-append}
use Rattle.std.proofs.lemmas.List.Elements.{filter-append}
use Rattle.std.proofs.lemmas.Bool.{or_right}
use Rattle.rule_table.specs.Groups.{Each}
use Rattle.rule_table.specs.GroupLaws.{each_append, each_weaken}
use Rattle.rule_table.specs.CitedLaws.{both_same}
use Rattle.rule_history.specs.History.{below}
use Rattle.std.specs.declared.cmp.Ordering.{Ordering}
use Rattle.std.specs.declared.cmp.Ordering.TheVariants.{Less}
use Rattle.engine_laws.specs.Order.{Rises}

pub each_of_map : {A B : Type 0} (f : A → B) (P : B → Type 0) (xs : List A) → Each P (map f xs) → Each (λ x. P (f x)) xs
each_of_map f P [] h = tt
each_of_map f P (x ∷ xs) h = (h.0, each_of_map f P xs h.1)

pub each_to_map : {A B : Type 0} (f : A → B) (P : B → Type 0) (xs : List A) → Each (λ x. P (f x)) xs → Each P (map f xs)
each_to_map f P [] h = tt
each_to_map f P (x ∷ xs) h = (h.0, each_to_map f P xs h.1)

pub each_flat : {A B : Type 0} (P : B → Type 0) (f : A → List B) (xs : List A) → Each (λ x. Each P (f x)) xs → Each P (flat_map f xs)
each_flat P f [] h = tt
each_flat P f (x ∷ xs) h = each_append P (f x) (flat_map f xs) h.0 (each_flat P f xs h.1)

pub each_below : {A : Type 0} (P : A → Type 0) (part : ℕ → List A) (n : ℕ) → ((f : ℕ) → f < n → Each P (part f)) → Each P (below part n)
each_below P part zero h = tt
each_below P part (suc n) h = each_append P (below part n) (part n) (each_below P part n (λ f l. h f (omega arith))) (h n (omega arith))

pub every : {A : Type 0} (P : A → Type 0) → ((x : A) → P x) → (xs : List A) → Each P xs
every P w [] = tt
every P w (x ∷ xs) = (w x, every P w xs)

-- ---- the parts of feeds
pub filter-below : {A : Type 0} (p : A → Bool) (part : ℕ → List A) (n : ℕ) → filter p (below part n) ≡ below (λ g. filter p (part g)) n
filter-below p part zero = refl
filter-below p part (suc n) = filter-append p (below part n) (part n) ∙ ap (λ ys. ys ++ filter p (part n)) (filter-below p part n)

pub map-below : {A B : Type 0} (f : A → B) (part : ℕ → List A) (n : ℕ) → map f (below part n) ≡ below (λ g. map f (part g)) n
map-below f part zero = refl
map-below f part (suc n) = map-append f (below part n) (part n) ∙ ap (λ ys. ys ++ map f (part n)) (map-below f part n)

pub below-same : {A : Type 0} (one two : ℕ → List A) (n : ℕ) → ((g : ℕ) → g < n → one g ≡ two g) → below one n ≡ below two n
below-same one two zero h = refl
below-same one two (suc n) h = both_same (below-same one two n (λ g l. h g (omega arith))) (h n (omega arith))

-- ---- a test that is true of one of some
pub any_left : {A : Type 0} (p : A → Bool) (xs ys : List A) → list_any p xs ≡ true → list_any p (xs ++ ys) ≡ true
any_left p [] ys h = cc
any_left p (x ∷ xs) ys h =
    elim (p x) as (λ b. (b || list_any p xs) ≡ true → (b || list_any p (xs ++ ys)) ≡ true) [ true ↦ λ _. refl | false ↦ λ k. any_left p xs ys k ] h

pub any_right : {A : Type 0} (p : A → Bool) (xs ys : List A) → list_any p ys ≡ true → list_any p (xs ++ ys) ≡ true
any_right p [] ys h = h
any_right p (x ∷ xs) ys h = or_right (p x) (list_any p (xs ++ ys)) (any_right p xs ys h)

pub any_below : {A : Type 0} (p : A → Bool) (part : ℕ → List A) (f n : ℕ) → f < n → list_any p (part f) ≡ true → list_any p (below part n) ≡ true
any_below p part f zero l h = absurd (omega (arith, l))
any_below p part f (suc n) l h =
    elim (eq-or-lt_of_le (up n f l)) [
      | inl e ↦ any_right p (below part n) (part n) (subst (λ m. list_any p (part m) ≡ true) e h)
      | inr lt ↦ any_left p (below part n) (part n) (any_below p part f n lt h)
    ]
  where
    up : (i j : ℕ) → j < suc i → j ≤ i
    up i j h = omega (arith, h)

-- ---- the same by parts
pub filter-same : {A : Type 0} (p q : A → Bool) (xs : List A) → Each (λ x. p x ≡ q x) xs → filter p xs ≡ filter q xs
filter-same {A} p q [] h = refl
filter-same {A} p q (x ∷ xs) h = step (p x) (q x) h.0 (filter-same p q xs h.1)
  where
    step : {ys zs : List A} (b c : Bool) → b ≡ c → ys ≡ zs → cond b (x ∷ ys) ys ≡ cond c (x ∷ zs) zs
    step b c e f = cc

pub map-same : {A B : Type 0} (f g : A → B) (xs : List A) → Each (λ x. f x ≡ g x) xs → map f xs ≡ map g xs
map-same {A} {B} f g [] h = refl
map-same {A} {B} f g (x ∷ xs) h = step h.0 (map-same f g xs h.1)
  where
    step : {y z : B} {ys zs : List B} → y ≡ z → ys ≡ zs → y ∷ ys ≡ z ∷ zs
    step e k = cc

pub flat-same : {A B : Type 0} (f g : A → List B) (xs : List A) → Each (λ x. f x ≡ g x) xs → flat_map f xs ≡ flat_map g xs
flat-same f g [] h = refl
flat-same f g (x ∷ xs) h = both_same h.0 (flat-same f g xs h.1)

-- a filter that nothing passes
pub filter-none : {A : Type 0} (p : A → Bool) (xs : List A) → Each (λ x. p x ≡ false) xs → filter p xs ≡ []
filter-none p [] h = refl
filter-none p (x ∷ xs) h = ap (λ b. cond b (x ∷ filter p xs) (filter p xs)) h.0 ∙ filter-none p xs h.1

-- and one that all pass
pub filter-all : {A : Type 0} (p : A → Bool) (xs : List A) → Each (λ x. p x ≡ true) xs → filter p xs ≡ xs
filter-all p [] h = refl
filter-all p (x ∷ xs) h = ap (λ b. cond b (x ∷ filter p xs) (filter p xs)) h.0 ∙ ap (λ ys. x ∷ ys) (filter-all p xs h.1)

-- ---- lists in order
pub rises_append : {A : Type 0} (cmp : A → A → Ordering) (xs ys : List A) → Rises cmp xs → Rises cmp ys → Each (λ x. Each (λ y. cmp x y ≡ Less) ys) xs → Rises cmp (xs ++ ys)
rises_append cmp [] ys h k d = k
rises_append cmp (x ∷ xs) ys h k d = (each_append (λ y. cmp x y ≡ Less) xs ys h.0 d.0, rises_append cmp xs ys h.1 k d.1)

-- two lists of which each of the first comes before each of the second
pub rises_parts : {A : Type 0} (cmp : A → A → Ordering) (P Q : A → Type 0) → ((x y : A) → P x → Q y → cmp x y ≡ Less) → (xs ys : List A) → Each P xs → Each Q ys → Rises cmp xs → Rises cmp ys → Rises cmp (xs ++ ys)
rises_parts cmp P Q less xs ys p q h k =
    rises_append cmp xs ys h k (each_weaken P (λ x. Each (λ y. cmp x y ≡ Less) ys) (λ x a. each_weaken Q (λ y. cmp x y ≡ Less) (λ y b. less x y a b) ys q) xs p)

-- the parts of feeds, where an element tells its feed
pub rises_below : {A : Type 0} (cmp : A → A → Ordering) (feed : A → ℕ) → ((x y : A) → feed x < feed y → cmp x y ≡ Less) → (part : ℕ → List A) →
    ((f : ℕ) → Rises cmp (part f)) → ((f : ℕ) → Each (λ x. feed x ≡ f) (part f)) → (n : ℕ) → Rises cmp (below part n) × Each (λ x. feed x < n) (below part n)
rises_below cmp feed less part up at zero = (tt, tt)
rises_below cmp feed less part up at (suc n) =
    let m = rises_below cmp feed less part up at n in (
      rises_parts cmp (λ x. feed x < n) (λ x. feed x ≡ n) (λ x y a b. less x y (subst (λ z. feed x < z) (sym b) a)) (below part n) (part n) m.1 (at n) m.0 (up n),
      each_append (λ x. feed x < suc n) (below part n) (part n)
          (each_weaken (λ x. feed x < n) (λ x. feed x < suc n) (λ x l. further (feed x) n l) (below part n) m.1)
          (each_weaken (λ x. feed x ≡ n) (λ x. feed x < suc n) (λ x e. last (feed x) n e) (part n) (at n)),
    )
  where
    further : (a b : ℕ) → a < b → a < suc b
    further a b h = omega arith

    last : (a b : ℕ) → a ≡ b → a < suc b
    last a b h = omega arith
