-- Lists that are compared place by place, from a place on.
use Rattle.std.proofs.Common.{◌≡◌, ◌≢◌, ◌≤◌, ◌<◌, ◌+◌, ℕ, suc, Bool, true, false, ◌&&◌, List, [], ◌∷◌, length, map, drop, get_or, refl, sym, ap, ◌∙◌}
use Rattle.std.specs.Cmp.Lexicographic.{pointwise}
use Rattle.std.proofs.lemmas.List.{drop_more, drop_all}

pub pointwise-map : {A B : Type 0} (E : B → B → Bool) (f : A → B) (xs ys : List A) → pointwise E (map f xs) (map f ys) ≡ pointwise (λ x y. E (f x) (f y)) xs ys
pointwise-map E f [] [] = refl
pointwise-map E f [] (y ∷ ys) = refl
pointwise-map E f (x ∷ xs) [] = refl
pointwise-map E f (x ∷ xs) (y ∷ ys) = ap (λ b. E (f x) (f y) && b) (pointwise-map E f xs ys)

pub other_lengths : {A : Type 0} (E : A → A → Bool) (xs ys : List A) → length xs ≢ length ys → false ≡ pointwise E xs ys
other_lengths E [] [] n = absurd (n refl)
other_lengths E [] (y ∷ ys) n = refl
other_lengths E (x ∷ xs) [] n = refl
other_lengths E (x ∷ xs) (y ∷ ys) n = both (E x y) (pointwise E xs ys) (other_lengths E xs ys (λ e. n (ap suc e)))
  where
    both : (b c : Bool) → false ≡ c → false ≡ (b && c)
    both true c h = h
    both false c h = refl

module _ {A : Type 0} (E : A → A → Bool) (xs ys : List A) (i : ℕ) (d : A) (l : i < length xs) (m : i < length ys) where
  more : pointwise E (drop i xs) (drop i ys) ≡ (E (get_or xs i d) (get_or ys i d) && pointwise E (drop (i + 1) xs) (drop (i + 1) ys))
  more = ap (λ zs. pointwise E zs (drop i ys)) (drop_more xs i d l) ∙ ap (λ zs. pointwise E (get_or xs i d ∷ drop (i + 1) xs) zs) (drop_more ys i d m)

  pub same_next : (all : Bool) → true ≡ E (get_or xs i d) (get_or ys i d) → pointwise E (drop i xs) (drop i ys) ≡ all → pointwise E (drop (i + 1) xs) (drop (i + 1) ys) ≡ all
  same_next all t h = ap (λ b. b && pointwise E (drop (i + 1) xs) (drop (i + 1) ys)) t ∙ sym more ∙ h

  pub differ_here : (all : Bool) → false ≡ E (get_or xs i d) (get_or ys i d) → pointwise E (drop i xs) (drop i ys) ≡ all → false ≡ all
  differ_here all t h = ap (λ b. b && pointwise E (drop (i + 1) xs) (drop (i + 1) ys)) t ∙ sym more ∙ h

pub same_end : {A : Type 0} (E : A → A → Bool) (xs ys : List A) (i : ℕ) (all : Bool) → length xs ≤ i → length ys ≤ i → pointwise E (drop i xs) (drop i ys) ≡ all → true ≡ all
same_end E xs ys i all l m h = sym (ap (λ zs. pointwise E zs (drop i ys)) (drop_all i xs l) ∙ ap (λ zs. pointwise E [] zs) (drop_all i ys m)) ∙ h
