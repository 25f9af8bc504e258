-- Parts of a list in order, before and after one item is put in or taken out.
use Rattle.std.proofs.Common.{◌≡◌, Bool, true, false, cond, ◌&&◌, ◌||◌, List, [], ◌∷◌, Option, Some, None, is_some, refl, sym, ◌∙◌, ap}
use Rattle.std.specs.Prelude.{map, option_map}
use Rattle.std.specs.declared.cmp.Ordering.{Ordering}
use Rattle.std.specs.declared.cmp.Ordering.TheVariants.{Less, Equal, Greater}
use Rattle.std.specs.Ordering.{match_ordering}
use Rattle.std.specs.Cmp.{IsTotalOrder}
use Rattle.std.specs.List.{filter, find, list_any, AllByRecursion}
use Rattle.std.specs.List.Sorted.{IsStrictlySortedBy}
use Rattle.std.specs.BTreeSet.{insert_key}
use Rattle.std.specs.Set.{remove_key}

module _ {K : Type 0} {R : K → K → Ordering} (o : IsTotalOrder R) (p : K → Bool) (k : K) (ties : (x : K) → R k x ≡ Equal → p x ≡ p k) where
  below_filter : (q : K → Bool) (xs : List K) → AllByRecursion (λ y. R k y ≡ Less) xs → AllByRecursion (λ y. R k y ≡ Less) (filter q xs)
  below_filter q [] h = tt
  below_filter q (x ∷ xs) h =
      elim (q x) as (λ b. AllByRecursion (λ y. R k y ≡ Less) (cond b (x ∷ filter q xs) (filter q xs))) [ true ↦ (h.0, below_filter q xs h.1) | false ↦ below_filter q xs h.1 ]

  below_more : (x : K) (xs : List K) → R k x ≡ Less → AllByRecursion (λ y. R x y ≡ Less) xs → AllByRecursion (λ y. R k y ≡ Less) xs
  below_more x [] l h = tt
  below_more x (y ∷ xs) l h = (o.trans k x y l h.0, below_more x xs l h.1)

  insert-front : (xs : List K) → AllByRecursion (λ y. R k y ≡ Less) xs → insert_key R xs k ≡ k ∷ xs
  insert-front [] h = refl
  insert-front (x ∷ xs) h = ap (λ r. match_ordering r (k ∷ x ∷ xs) (x ∷ xs) (x ∷ insert_key R xs k)) h.0

  insert-there : (x : K) (xs : List K) → R k x ≡ Equal → insert_key R (x ∷ xs) k ≡ x ∷ xs
  insert-there x xs e = ap (λ r. match_ordering r (k ∷ x ∷ xs) (x ∷ xs) (x ∷ insert_key R xs k)) e

  insert-past : (x : K) (xs : List K) → R k x ≡ Greater → insert_key R (x ∷ xs) k ≡ x ∷ insert_key R xs k
  insert-past x xs g = ap (λ r. match_ordering r (k ∷ x ∷ xs) (x ∷ xs) (x ∷ insert_key R xs k)) g

  there : (a b : Bool) (x : K) (xs : List K) → a ≡ b → R k x ≡ Equal → cond a (x ∷ xs) xs ≡ cond b (insert_key R (cond a (x ∷ xs) xs) k) (cond a (x ∷ xs) xs)
  there true true x xs h e = sym (insert-there x xs e)
  there true false x xs h e = refl
  there false true x xs h e = cc
  there false false x xs h e = refl

  past : (a b : Bool) (x : K) (xs ys : List K) → ys ≡ cond b (insert_key R xs k) xs → R k x ≡ Greater → cond a (x ∷ ys) ys ≡ cond b (insert_key R (cond a (x ∷ xs) xs) k) (cond a (x ∷ xs) xs)
  past true true x xs ys h g = ap (λ zs. x ∷ zs) h ∙ sym (insert-past x xs g)
  past true false x xs ys h g = ap (λ zs. x ∷ zs) h
  past false b x xs ys h g = h

  pub filter-insert : (xs : List K) → IsStrictlySortedBy R xs → filter p (insert_key R xs k) ≡ cond (p k) (insert_key R (filter p xs) k) (filter p xs)
  unfolding IsStrictlySortedBy
  filter-insert [] s = refl
  filter-insert (x ∷ xs) s =
      elim (R k x) as (λ r. R k x ≡ r → filter p (match_ordering r (k ∷ x ∷ xs) (x ∷ xs) (x ∷ insert_key R xs k)) ≡ cond (p k) (insert_key R (filter p (x ∷ xs)) k) (filter p (x ∷ xs))) [
        | Less ↦ λ l. ap (λ ys. cond (p k) ys (filter p (x ∷ xs))) (sym (insert-front (filter p (x ∷ xs)) (below_filter p (x ∷ xs) (l, below_more x xs l s.0))))
        | Equal ↦ λ e. there (p x) (p k) x (filter p xs) (ties x e) e
        | Greater ↦ λ g. past (p x) (p k) x (filter p xs) (filter p (insert_key R xs k)) (filter-insert xs s.1) g
      ] refl

module _ {K : Type 0} (p test : K → Bool) (b : Bool) (same : (x : K) → test x ≡ true → p x ≡ b) where
  taken : (a : Bool) (x : K) (xs : List K) → a ≡ b → test x ≡ true → xs ≡ cond b (remove_key test (cond a (x ∷ xs) xs)) (cond a (x ∷ xs) xs)
  taken a x xs h t = subst_both a h
    where
      subst_both : (a : Bool) → a ≡ b → xs ≡ cond b (remove_key test (cond a (x ∷ xs) xs)) (cond a (x ∷ xs) xs)
      subst_both true h = ap (λ c. cond c xs (x ∷ remove_key test xs)) (sym t) ∙ ap (λ c. cond c (remove_key test (x ∷ xs)) (x ∷ xs)) h
      subst_both false h = ap (λ c. cond c (remove_key test xs) xs) h

  stays : (a c : Bool) (x : K) (xs ys : List K) → ys ≡ cond c (remove_key test xs) xs → test x ≡ false → cond a (x ∷ ys) ys ≡ cond c (remove_key test (cond a (x ∷ xs) xs)) (cond a (x ∷ xs) xs)
  stays true true x xs ys h t = ap (λ zs. x ∷ zs) h ∙ ap (λ d. cond d xs (x ∷ remove_key test xs)) (sym t)
  stays true false x xs ys h t = ap (λ zs. x ∷ zs) h
  stays false c x xs ys h t = h

  none : (c : Bool) → filter p [] ≡ cond c (remove_key test []) []
  none true = refl
  none false = refl

  pub filter-remove : (xs : List K) → filter p (remove_key test xs) ≡ cond b (remove_key test (filter p xs)) (filter p xs)
  filter-remove [] = none b
  filter-remove (x ∷ xs) =
      elim (test x) as (λ c. test x ≡ c → filter p (cond c xs (x ∷ remove_key test xs)) ≡ cond b (remove_key test (filter p (x ∷ xs))) (filter p (x ∷ xs))) [
        | true ↦ λ t. taken (p x) x (filter p xs) (same x t) t
        | false ↦ λ t. stays (p x) b x (filter p xs) (filter p (remove_key test xs)) (filter-remove xs) t
      ] refl

-- ---- what is seen of a list's items
module _ {A B : Type 0} (f : A → B) (p : A → Bool) where
  pub map-insert : (R : A → A → Ordering) (O : B → B → Ordering) (k : A) → ((x : A) → p x ≡ true → R k x ≡ O (f k) (f x)) → (xs : List A) → map f (insert_key R (filter p xs) k) ≡ insert_key O (map f (filter p xs)) (f k)
  map-insert R O k h [] = refl
  map-insert R O k h (x ∷ xs) =
      elim (p x) as (λ b. p x ≡ b → map f (insert_key R (cond b (x ∷ filter p xs) (filter p xs)) k) ≡ insert_key O (map f (cond b (x ∷ filter p xs) (filter p xs))) (f k)) [
        | true ↦ λ t. each (R k x) (map-insert R O k h xs) ∙ ap (λ r. match_ordering r (f k ∷ f x ∷ map f (filter p xs)) (f x ∷ map f (filter p xs)) (f x ∷ insert_key O (map f (filter p xs)) (f k))) (h x t)
        | false ↦ λ _. map-insert R O k h xs
      ] refl
    where
      each : (r : Ordering) → map f (insert_key R (filter p xs) k) ≡ insert_key O (map f (filter p xs)) (f k)
          → map f (match_ordering r (k ∷ x ∷ filter p xs) (x ∷ filter p xs) (x ∷ insert_key R (filter p xs) k)) ≡ match_ordering r (f k ∷ f x ∷ map f (filter p xs)) (f x ∷ map f (filter p xs)) (f x ∷ insert_key O (map f (filter p xs)) (f k))
      each Less e = refl
      each Equal e = refl
      each Greater e = ap (λ ys. f x ∷ ys) e

  pub map-remove : (test : A → Bool) (other : B → Bool) → ((x : A) → p x ≡ true → test x ≡ other (f x)) → (xs : List A) → map f (remove_key test (filter p xs)) ≡ remove_key other (map f (filter p xs))
  map-remove test other h [] = refl
  map-remove test other h (x ∷ xs) =
      elim (p x) as (λ b. p x ≡ b → map f (remove_key test (cond b (x ∷ filter p xs) (filter p xs))) ≡ remove_key other (map f (cond b (x ∷ filter p xs) (filter p xs)))) [
        | true ↦ λ t. each (test x) (map-remove test other h xs) ∙ ap (λ b. cond b (map f (filter p xs)) (f x ∷ remove_key other (map f (filter p xs)))) (h x t)
        | false ↦ λ _. map-remove test other h xs
      ] refl
    where
      each : (b : Bool) → map f (remove_key test (filter p xs)) ≡ remove_key other (map f (filter p xs)) → map f (cond b (filter p xs) (x ∷ remove_key test (filter p xs))) ≡ cond b (map f (filter p xs)) (f x ∷ remove_key other (map f (filter p xs)))
      each true e = refl
      each false e = ap (λ ys. f x ∷ ys) e

  -- the first item that passes, and more, from what is seen of those that pass
  pub find-seen : (g : B → Bool) (xs : List A) → option_map f (find (λ x. p x && g (f x)) xs) ≡ find g (map f (filter p xs))
  find-seen g [] = refl
  find-seen g (x ∷ xs) =
      elim (p x) as (λ b. option_map f (cond (b && g (f x)) (Some x) (find (λ x. p x && g (f x)) xs)) ≡ find g (map f (cond b (x ∷ filter p xs) (filter p xs)))) [
        | true ↦ each (g (f x)) (find-seen g xs)
        | false ↦ find-seen g xs
      ]
    where
      each : (b : Bool) → option_map f (find (λ x. p x && g (f x)) xs) ≡ find g (map f (filter p xs)) → option_map f (cond b (Some x) (find (λ x. p x && g (f x)) xs)) ≡ cond b (Some (f x)) (find g (map f (filter p xs)))
      each true h = refl
      each false h = h

  pub any-seen : (g : B → Bool) (xs : List A) → list_any (λ x. p x && g (f x)) xs ≡ list_any g (map f (filter p xs))
  any-seen g [] = refl
  any-seen g (x ∷ xs) =
      elim (p x) as (λ b. ((b && g (f x)) || list_any (λ x. p x && g (f x)) xs) ≡ list_any g (map f (cond b (x ∷ filter p xs) (filter p xs)))) [
        | true ↦ ap (λ b. g (f x) || b) (any-seen g xs)
        | false ↦ any-seen g xs
      ]

one-of : (a b u v : Bool) → ((a || u) || (b || v)) ≡ ((a || b) || (u || v))
one-of true b u v = refl
one-of false true true v = refl
one-of false true false v = refl
one-of false false u v = refl

module _ {K : Type 0} where
  first : List K → Option K
  first [] = None
  first (x ∷ xs) = Some x

  find-first : (p : K → Bool) (xs : List K) → find p xs ≡ first (filter p xs)
  unfolding first
  find-first p [] = refl
  find-first p (x ∷ xs) = each (p x) (find-first p xs)
    where
      each : (b : Bool) → find p xs ≡ first (filter p xs) → cond b (Some x) (find p xs) ≡ first (cond b (x ∷ filter p xs) (filter p xs))
      each true h = refl
      each false h = h

  -- the first that passes, from the list of all that do
  pub find-some : (p : K → Bool) (xs : List K) (y : K) (ys : List K) → filter p xs ≡ y ∷ ys → find p xs ≡ Some y
  unfolding first
  find-some p xs y ys e = find-first p xs ∙ ap first e

  pub find-none : (p : K → Bool) (xs : List K) → filter p xs ≡ [] → find p xs ≡ None
  unfolding first
  find-none p xs e = find-first p xs ∙ ap first e

  pub any-find : (p : K → Bool) (xs : List K) → list_any p xs ≡ is_some (find p xs)
  any-find p [] = refl
  any-find p (x ∷ xs) = each (p x) (any-find p xs)
    where
      each : (b : Bool) → list_any p xs ≡ is_some (find p xs) → (b || list_any p xs) ≡ is_some (cond b (Some x) (find p xs))
      each true h = refl
      each false h = h

  abbrev pub cut : (K → Bool) → Option K → Option K
  cut p None = None
  cut p (Some y) = cond (p y) (Some y) None

  pub cut-some : (p : K → Bool) (x : Option K) (y : K) → x ≡ Some y → is_some (cut p x) ≡ p y
  cut-some p x y e = ap (λ x. is_some (cut p x)) e ∙ each (p y)
    where
      each : (b : Bool) → is_some (cond b (Some y) None) ≡ b
      each true = refl
      each false = refl

  nothing : (p : K → Bool) (xs : List K) → AllByRecursion (λ z. p z ≡ false) xs → None ≡ find p xs
  nothing p [] h = refl
  nothing p (x ∷ xs) h = nothing p xs h.1 ∙ ap (λ b. cond b (Some x) (find p xs)) (sym h.0)

  -- where what passes p stands at the front of what passes q
  pub find-cut : {R : K → K → Ordering} (p q : K → Bool) → ((x : K) → q x ≡ false → p x ≡ false) → ((x z : K) → q x ≡ true → p x ≡ false → R x z ≡ Less → p z ≡ false)
      → (xs : List K) → IsStrictlySortedBy R xs → cut p (find q xs) ≡ find p xs
  unfolding IsStrictlySortedBy
  find-cut p q within front [] s = refl
  find-cut {R} p q within front (x ∷ xs) s =
      elim (q x) as (λ b. q x ≡ b → cut p (cond b (Some x) (find q xs)) ≡ cond (p x) (Some x) (find p xs)) [
        | true ↦ λ t. elim (p x) as (λ c. p x ≡ c → cond c (Some x) None ≡ cond c (Some x) (find p xs)) [
          | true ↦ λ _. refl
          | false ↦ λ f. nothing p xs (later xs (front x) s.0 t f)
        ] refl
        | false ↦ λ f. find-cut p q within front xs s.1 ∙ ap (λ b. cond b (Some x) (find p xs)) (sym (within x f))
      ] refl
    where
      later : (ys : List K) → ((z : K) → q x ≡ true → p x ≡ false → R x z ≡ Less → p z ≡ false) → AllByRecursion (λ y. R x y ≡ Less) ys → q x ≡ true → p x ≡ false → AllByRecursion (λ z. p z ≡ false) ys
      later [] each h t f = tt
      later (y ∷ ys) each h t f = (each y t f h.0, later ys each h.1 t f)

  pub find-same : (p q : K → Bool) → ((x : K) → p x ≡ q x) → (xs : List K) → find p xs ≡ find q xs
  find-same p q h [] = refl
  find-same p q h (x ∷ xs) = ap (λ b. cond b (Some x) (find p xs)) (h x) ∙ ap (cond (q x) (Some x)) (find-same p q h xs)

  pub any-same : (p q : K → Bool) → ((x : K) → p x ≡ q x) → (xs : List K) → list_any p xs ≡ list_any q xs
  any-same p q h [] = refl
  any-same p q h (x ∷ xs) = ap (λ b. b || list_any p xs) (h x) ∙ ap (λ b. q x || b) (any-same p q h xs)

  pub any-or : (p q : K → Bool) (xs : List K) → (list_any p xs || list_any q xs) ≡ list_any (λ x. p x || q x) xs
  any-or p q [] = refl
  any-or p q (x ∷ xs) = one-of (p x) (q x) (list_any p xs) (list_any q xs) ∙ ap (λ b. (p x || q x) || b) (any-or p q xs)

  pub all-insert : (P : K → Type 0) (R : K → K → Ordering) (k : K) → P k → (xs : List K) → AllByRecursion P xs → AllByRecursion P (insert_key R xs k)
  all-insert P R k h [] a = (h, tt)
  all-insert P R k h (x ∷ xs) a = elim (R k x) as (λ r. AllByRecursion P (match_ordering r (k ∷ x ∷ xs) (x ∷ xs) (x ∷ insert_key R xs k))) [ Less ↦ (h, a) | Equal ↦ a | Greater ↦ (a.0, all-insert P R k h xs a.1) ]

  pub all-remove : (P : K → Type 0) (test : K → Bool) (xs : List K) → AllByRecursion P xs → AllByRecursion P (remove_key test xs)
  all-remove P test [] a = tt
  all-remove P test (x ∷ xs) a = elim (test x) as (λ b. AllByRecursion P (cond b xs (x ∷ remove_key test xs))) [ true ↦ a.1 | false ↦ (a.0, all-remove P test xs a.1) ]

  pub all-then : (P Q : K → Type 0) → ((x : K) → P x → Q x) → (xs : List K) → AllByRecursion P xs → AllByRecursion Q xs
  all-then P Q h [] a = tt
  all-then P Q h (x ∷ xs) a = (h x a.0, all-then P Q h xs a.1)

  -- tests that agree on the items of a list
  pub filter-same : (p q : K → Bool) (xs : List K) → AllByRecursion (λ x. p x ≡ q x) xs → filter p xs ≡ filter q xs
  filter-same p q [] a = refl
  filter-same p q (x ∷ xs) a = ap (λ b. cond b (x ∷ filter p xs) (filter p xs)) a.0 ∙ ap (λ ys. cond (q x) (x ∷ ys) ys) (filter-same p q xs a.1)

  pub filter-all-same : (p q : K → Bool) → ((x : K) → p x ≡ q x) → (xs : List K) → filter p xs ≡ filter q xs
  filter-all-same p q h [] = refl
  filter-all-same p q h (x ∷ xs) = ap (λ b. cond b (x ∷ filter p xs) (filter p xs)) (h x) ∙ ap (λ ys. cond (q x) (x ∷ ys) ys) (filter-all-same p q h xs)

  pub any-none : (p : K → Bool) (xs : List K) → AllByRecursion (λ x. p x ≡ false) xs → list_any p xs ≡ false
  any-none p [] a = refl
  any-none p (x ∷ xs) a = ap (λ b. b || list_any p xs) a.0 ∙ any-none p xs a.1

  pub find-nothing : (p : K → Bool) (xs : List K) → AllByRecursion (λ x. p x ≡ false) xs → find p xs ≡ None
  find-nothing p [] a = refl
  find-nothing p (x ∷ xs) a = ap (λ b. cond b (Some x) (find p xs)) a.0 ∙ find-nothing p xs a.1

pub some-mapped : {A B : Type 0} (f : A → B) (x : Option A) → is_some x ≡ is_some (option_map f x)
some-mapped f None = refl
some-mapped f (Some x) = refl
