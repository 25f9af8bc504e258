-- A list of feeds, against what is held of each.
use Rattle.std.specs.Prelude.{◌≡◌, ℕ, zero, suc, ◌≤◌, List, [], ◌∷◌, ◌++◌, map, get_or, length, Option, refl, ◌⊎◌}
use Rattle.std.specs.List.{flat_map}
use Rattle.std.proofs.Common.{inl, inr, sym, ◌∙◌, ap, arith, append-nil, append_assoc}
use Rattle.std.proofs.Math.Nat.{eq-or-lt_of_le}
use Rattle.std.proofs.lemmas.List.{get_or_past}
use Rattle.timetable.specs.Timetables.{Tables}
use Rattle.rule_history.specs.History.{below, feed_limit}
use Rattle.engine_laws.specs.HeldFeeds.{HeldFeed, feed_list, no_feed, feed_at, data_of, IsJoined}

-- parts past n are empty
pub below-more : {A : Type 0} (part : ℕ → List A) (m n : ℕ) → n ≤ m → ((g : ℕ) → n ≤ g → part g ≡ []) → below part m ≡ below part n
below-more part zero n le h = ap (below part) (none n le)
  where
    none : (n : ℕ) → n ≤ zero → zero ≡ n
    none n le = omega arith
below-more {A} part (suc m) n le h =
    elim (split m n le) [
      | inl e ↦ ap (below part) e
      | inr l ↦ ap (λ ys. below part m ++ ys) (h m l) ∙ append-nil (below part m) ∙ below-more part m n l h
    ]
  where
    split : (m n : ℕ) → n ≤ suc m → (suc m ≡ n) ⊎ (n ≤ m)
    split m n le = elim (eq-or-lt_of_le le) [ inl e ↦ inl (sym e) | inr l ↦ inr (omega arith) ]

below-shift : {A : Type 0} (part : ℕ → List A) (n : ℕ) → below part (suc n) ≡ part 0 ++ below (λ g. part (suc g)) n
below-shift part zero = sym (append-nil (part 0))
below-shift part (suc n) = ap (λ xs. xs ++ part (suc n)) (below-shift part n) ∙ append_assoc (part 0) (below (λ g. part (suc g)) n) (part (suc n))

flat-upto : {A B : Type 0} (f : A → List B) (xs : List A) (d : A) → flat_map f xs ≡ below (λ g. f (get_or xs g d)) (length xs)
flat-upto f [] d = refl
flat-upto f (x ∷ xs) d = ap (λ ys. f x ++ ys) (flat-upto f xs d) ∙ sym (below-shift (λ g. f (get_or (x ∷ xs) g d)) (length xs))

-- what a list gives, element by element, is what its places give, one after the other
pub flat-below : {A B : Type 0} (f : A → List B) (xs : List A) (d : A) → f d ≡ [] → length xs ≤ feed_limit → flat_map f xs ≡ below (λ g. f (get_or xs g d)) feed_limit
flat-below f xs d none few =
    flat-upto f xs d ∙ sym (below-more (λ g. f (get_or xs g d)) feed_limit (length xs) few (λ g l. ap f (get_or_past xs g d l) ∙ none))

pub get_or-map : {A B : Type 0} (f : A → B) (xs : List A) (g : ℕ) (d : A) → get_or (map f xs) g (f d) ≡ f (get_or xs g d)
get_or-map f [] g d = refl
get_or-map f (x ∷ xs) zero d = refl
get_or-map f (x ∷ xs) (suc g) d = get_or-map f xs g d

pub data_are_joined : (t : Option Tables) (applied : ℕ) (list : List HeldFeed) → length list ≤ feed_limit → IsJoined (data_of t applied list) (feed_at list)
data_are_joined t applied list few = record {
  last_is = λ f. get_or-map (λ (held : HeldFeed). held.last) list f no_feed;
  peaks_are = λ f vehicle. refl;
  list_is = flat-below feed_list list no_feed refl few;
}
