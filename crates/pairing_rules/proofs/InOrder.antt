-- Rows in their order, however they are listed.
use Rattle.std.proofs.Common.{◌≡◌, ◌||◌, Bool, true, false, cond, List, [], ◌∷◌, refl, sym, ◌∙◌, ap}
use Rattle.std.specs.declared.cmp.Ordering.{Ordering}
use Rattle.std.specs.declared.cmp.Ordering.TheVariants.{Less, Equal, Greater}
use Rattle.std.specs.Ordering.{match_ordering, ordering_reverse, is_eq}
use Rattle.std.specs.Cmp.{IsTotalOrder, tied_itself, tied_back}
use Rattle.std.specs.List.{list_any, AllByRecursion}
use Rattle.std.specs.List.Sorted.{IsStrictlySortedBy}
use Rattle.std.specs.BTreeMap.{is_at}
use Rattle.std.specs.BTreeSet.{insert_key}
use Rattle.std.specs.Set.{remove_key}
use Rattle.std.proofs.lemmas.Map.Lookups.{CmpEqualImpliesEq}
use Rattle.rule_table.specs.Pairs.{PairRow}
use Rattle.pairing_rules.specs.Rows.{row_cmp, in_order}
use Rattle.pairing_rules.proofs.Order.{rows_total, exact_rows}
use Rattle.pairing_rules.proofs.Lists.{all-insert, all-remove}

module _ {K : Type 0} {R : K → K → Ordering} (o : IsTotalOrder R) (exact : CmpEqualImpliesEq R) where
  before : (k x : K) (xs : List K) → R k x ≡ Less → insert_key R (x ∷ xs) k ≡ k ∷ x ∷ xs
  before k x xs h = ap (λ r. match_ordering r (k ∷ x ∷ xs) (x ∷ xs) (x ∷ insert_key R xs k)) h

  there : (k x : K) (xs : List K) → R k x ≡ Equal → insert_key R (x ∷ xs) k ≡ x ∷ xs
  there k x xs h = ap (λ r. match_ordering r (k ∷ x ∷ xs) (x ∷ xs) (x ∷ insert_key R xs k)) h

  past : (k x : K) (xs : List K) → R k x ≡ Greater → insert_key R (x ∷ xs) k ≡ x ∷ insert_key R xs k
  past k x xs h = ap (λ r. match_ordering r (k ∷ x ∷ xs) (x ∷ xs) (x ∷ insert_key R xs k)) h

  above : (a b : K) → R a b ≡ Less → R b a ≡ Greater
  above a b h = o.antisymm b a ∙ ap ordering_reverse h

  below : (a b : K) → R a b ≡ Greater → R b a ≡ Less
  below a b h = o.antisymm b a ∙ ap ordering_reverse h

  -- a key that is put in twice is held once
  pub insert-twice : (k : K) (xs : List K) → insert_key R (insert_key R xs k) k ≡ insert_key R xs k
  insert-twice k [] = there k k [] (tied_itself o k)
  insert-twice k (x ∷ xs) =
      elim (R k x) as (λ r. R k x ≡ r → insert_key R (insert_key R (x ∷ xs) k) k ≡ insert_key R (x ∷ xs) k) [
        | Less ↦ λ h. ap (λ ys. insert_key R ys k) (before k x xs h) ∙ there k k (x ∷ xs) (tied_itself o k) ∙ sym (before k x xs h)
        | Equal ↦ λ h. ap (λ ys. insert_key R ys k) (there k x xs h)
        | Greater ↦ λ h. ap (λ ys. insert_key R ys k) (past k x xs h) ∙ past k x (insert_key R xs k) h ∙ ap (λ ys. x ∷ ys) (insert-twice k xs) ∙ sym (past k x xs h)
      ] refl

  fronts : (a b : K) (ys : List K) → insert_key R ys a ≡ a ∷ ys → insert_key R ys b ≡ b ∷ ys → insert_key R (b ∷ ys) a ≡ insert_key R (a ∷ ys) b
  fronts a b ys p q =
      elim (R a b) as (λ r. R a b ≡ r → insert_key R (b ∷ ys) a ≡ insert_key R (a ∷ ys) b) [
        | Less ↦ λ h. before a b ys h ∙ sym (past b a ys (above a b h) ∙ ap (λ zs. a ∷ zs) q)
        | Equal ↦ λ h. there a b ys h ∙ ap (λ z. z ∷ ys) (sym (exact a b h)) ∙ sym (there b a ys (tied_back o a b h))
        | Greater ↦ λ h. past a b ys h ∙ ap (λ zs. b ∷ zs) p ∙ sym (before b a ys (below a b h))
      ] refl

  -- where one of two keys is held at the front
  held : (a b x : K) (xs : List K) → R b x ≡ Equal → insert_key R (insert_key R (x ∷ xs) b) a ≡ insert_key R (insert_key R (x ∷ xs) a) b
  held a b x xs e =
      ap (λ ys. insert_key R ys a) (there b x xs e)
      ∙ elim (R a x) as (λ r. R a x ≡ r → insert_key R (x ∷ xs) a ≡ insert_key R (insert_key R (x ∷ xs) a) b) [
        | Less ↦ λ h. before a x xs h ∙ ap (λ ys. a ∷ ys) (sym (there b x xs e)) ∙ sym (past b a (x ∷ xs) (o.congr b x a e ∙ above a x h)) ∙ ap (λ ys. insert_key R ys b) (sym (before a x xs h))
        | Equal ↦ λ h. there a x xs h ∙ sym (there b x xs e) ∙ ap (λ ys. insert_key R ys b) (sym (there a x xs h))
        | Greater ↦ λ h. past a x xs h ∙ sym (there b x (insert_key R xs a) e) ∙ ap (λ ys. insert_key R ys b) (sym (past a x xs h))
      ] refl

  apart : (a b x : K) (xs : List K) → R a x ≡ Less → R b x ≡ Greater → insert_key R (insert_key R (x ∷ xs) b) a ≡ insert_key R (insert_key R (x ∷ xs) a) b
  apart a b x xs l g =
      ap (λ ys. insert_key R ys a) (past b x xs g) ∙ before a x (insert_key R xs b) l ∙ ap (λ ys. a ∷ ys) (sym (past b x xs g))
      ∙ sym (past b a (x ∷ xs) (above a b (o.trans a x b l (below b x g)))) ∙ ap (λ ys. insert_key R ys b) (sym (before a x xs l))

  -- two keys may be put in in either order
  pub insert-swap : (a b : K) (xs : List K) → insert_key R (insert_key R xs b) a ≡ insert_key R (insert_key R xs a) b
  insert-swap a b [] = fronts a b [] refl refl
  insert-swap a b (x ∷ xs) =
      elim (R b x) as (λ r. R b x ≡ r → insert_key R (insert_key R (x ∷ xs) b) a ≡ insert_key R (insert_key R (x ∷ xs) a) b) [
        | Less ↦ λ h. elim (R a x) as (λ r. R a x ≡ r → insert_key R (insert_key R (x ∷ xs) b) a ≡ insert_key R (insert_key R (x ∷ xs) a) b) [
          | Less ↦ λ g. ap (λ ys. insert_key R ys a) (before b x xs h) ∙ fronts a b (x ∷ xs) (before a x xs g) (before b x xs h) ∙ ap (λ ys. insert_key R ys b) (sym (before a x xs g))
          | Equal ↦ λ g. sym (held b a x xs g)
          | Greater ↦ λ g. sym (apart b a x xs h g)
        ] refl
        | Equal ↦ λ h. held a b x xs h
        | Greater ↦ λ h. elim (R a x) as (λ r. R a x ≡ r → insert_key R (insert_key R (x ∷ xs) b) a ≡ insert_key R (insert_key R (x ∷ xs) a) b) [
          | Less ↦ λ g. apart a b x xs g h
          | Equal ↦ λ g. sym (held b a x xs g)
          | Greater ↦ λ g. ap (λ ys. insert_key R ys a) (past b x xs h) ∙ past a x (insert_key R xs b) g ∙ ap (λ ys. x ∷ ys) (insert-swap a b xs)
              ∙ sym (past b x (insert_key R xs a) h) ∙ ap (λ ys. insert_key R ys b) (sym (past a x xs g))
        ] refl
      ] refl

  taken : (test : K → Bool) (x : K) (xs : List K) → test x ≡ true → remove_key test (x ∷ xs) ≡ xs
  taken test x xs h = ap (λ b. cond b xs (x ∷ remove_key test xs)) h

  stays : (test : K → Bool) (x : K) (xs : List K) → test x ≡ false → remove_key test (x ∷ xs) ≡ x ∷ remove_key test xs
  stays test x xs h = ap (λ b. cond b xs (x ∷ remove_key test xs)) h

  -- nothing is taken out of a list that has nothing of it
  pub remove-none : (test : K → Bool) (xs : List K) → AllByRecursion (λ x. test x ≡ false) xs → remove_key test xs ≡ xs
  remove-none test [] a = refl
  remove-none test (x ∷ xs) a = stays test x xs a.0 ∙ ap (λ ys. x ∷ ys) (remove-none test xs a.1)

  own : (k : K) → is_at (R k) k ≡ true
  own k = ap is_eq (tied_itself o k)

  -- a new key that is put in and taken out again
  pub remove-new : (k : K) (xs : List K) → AllByRecursion (λ x. is_at (R k) x ≡ false) xs → remove_key (is_at (R k)) (insert_key R xs k) ≡ xs
  remove-new k [] a = taken (is_at (R k)) k [] (own k)
  remove-new k (x ∷ xs) a =
      elim (R k x) as (λ r. R k x ≡ r → is_eq r ≡ false → remove_key (is_at (R k)) (insert_key R (x ∷ xs) k) ≡ x ∷ xs) [
        | Less ↦ λ h _. ap (remove_key (is_at (R k))) (before k x xs h) ∙ taken (is_at (R k)) k (x ∷ xs) (own k)
        | Equal ↦ λ h f. cc
        | Greater ↦ λ h _. ap (remove_key (is_at (R k))) (past k x xs h) ∙ stays (is_at (R k)) x (insert_key R xs k) a.0 ∙ ap (λ ys. x ∷ ys) (remove-new k xs a.1)
      ] refl a.0

  below-more : (k x : K) (xs : List K) → R k x ≡ Less → AllByRecursion (λ y. R x y ≡ Less) xs → AllByRecursion (λ y. R k y ≡ Less) xs
  below-more k x [] l h = tt
  below-more k x (y ∷ ys) l h = (o.trans k x y l h.0, below-more k x ys l h.1)

  front : (k : K) (xs : List K) → AllByRecursion (λ y. R k y ≡ Less) xs → insert_key R xs k ≡ k ∷ xs
  front k [] a = refl
  front k (x ∷ xs) a = before k x xs a.0

  -- one key is put in and another taken out
  pub remove-other : (k b : K) → is_at (R k) b ≡ false → (xs : List K) → IsStrictlySortedBy R xs → remove_key (is_at (R k)) (insert_key R xs b) ≡ insert_key R (remove_key (is_at (R k)) xs) b
  unfolding IsStrictlySortedBy
  remove-other k b f [] s = stays (is_at (R k)) b [] f
  remove-other k b f (x ∷ xs) s =
      elim (R b x) as (λ r. R b x ≡ r → remove_key (is_at (R k)) (insert_key R (x ∷ xs) b) ≡ insert_key R (remove_key (is_at (R k)) (x ∷ xs)) b) [
        | Less ↦ λ h. ap (remove_key (is_at (R k))) (before b x xs h) ∙ stays (is_at (R k)) b (x ∷ xs) f
            ∙ sym (front b (remove_key (is_at (R k)) (x ∷ xs)) (all-remove (λ y. R b y ≡ Less) (is_at (R k)) (x ∷ xs) (h, below-more b x xs h s.0)))
        | Equal ↦ λ h.
            let g : is_at (R k) x ≡ false = ap (is_at (R k)) (sym (exact b x h)) ∙ f in
            ap (remove_key (is_at (R k))) (there b x xs h) ∙ stays (is_at (R k)) x xs g ∙ sym (there b x (remove_key (is_at (R k)) xs) h) ∙ ap (λ ys. insert_key R ys b) (sym (stays (is_at (R k)) x xs g))
        | Greater ↦ λ h. ap (remove_key (is_at (R k))) (past b x xs h) ∙ elim (is_at (R k) x) as (λ c. is_at (R k) x ≡ c → remove_key (is_at (R k)) (x ∷ insert_key R xs b) ≡ insert_key R (remove_key (is_at (R k)) (x ∷ xs)) b) [
          | true ↦ λ t. taken (is_at (R k)) x (insert_key R xs b) t ∙ ap (λ ys. insert_key R ys b) (sym (taken (is_at (R k)) x xs t))
          | false ↦ λ t. stays (is_at (R k)) x (insert_key R xs b) t ∙ ap (λ ys. x ∷ ys) (remove-other k b f xs s.1)
              ∙ sym (past b x (remove_key (is_at (R k)) xs) h) ∙ ap (λ ys. insert_key R ys b) (sym (stays (is_at (R k)) x xs t))
        ] refl
      ] refl

  -- a list in order stays in order
  all-above : (k : K) (x : K) (xs : List K) → R x k ≡ Less → AllByRecursion (λ y. R x y ≡ Less) xs → AllByRecursion (λ y. R x y ≡ Less) (insert_key R xs k)
  all-above k x xs l a = all-insert (λ y. R x y ≡ Less) R k l xs a

  pub insert-sorted : (k : K) (xs : List K) → IsStrictlySortedBy R xs → IsStrictlySortedBy R (insert_key R xs k)
  unfolding IsStrictlySortedBy
  insert-sorted k [] s = (tt, tt)
  insert-sorted k (x ∷ xs) s =
      elim (R k x) as (λ r. R k x ≡ r → IsStrictlySortedBy R (match_ordering r (k ∷ x ∷ xs) (x ∷ xs) (x ∷ insert_key R xs k))) [
        | Less ↦ λ h. ((h, below-more k x xs h s.0), s)
        | Equal ↦ λ h. s
        | Greater ↦ λ h. (all-above k x xs (below k x h) s.0, insert-sorted k xs s.1)
      ] refl

  any-held : (p : K → Bool) (k x : K) (b : Bool) → R k x ≡ Equal → (p x || b) ≡ (p k || (p x || b))
  any-held p k x b h = ap (λ y. p y || b) (sym (exact k x h)) ∙ again (p k) b ∙ ap (λ y. p k || (p y || b)) (exact k x h)
    where
      again : (a b : Bool) → (a || b) ≡ (a || (a || b))
      again true b = refl
      again false b = refl

  or-swap : (a b c : Bool) → (a || (b || c)) ≡ (b || (a || c))
  or-swap true true c = refl
  or-swap true false c = refl
  or-swap false b c = refl

  pub any-insert : (p : K → Bool) (k : K) (xs : List K) → list_any p (insert_key R xs k) ≡ (p k || list_any p xs)
  any-insert p k [] = refl
  any-insert p k (x ∷ xs) =
      elim (R k x) as (λ r. R k x ≡ r → list_any p (match_ordering r (k ∷ x ∷ xs) (x ∷ xs) (x ∷ insert_key R xs k)) ≡ (p k || list_any p (x ∷ xs))) [
        | Less ↦ λ h. refl
        | Equal ↦ λ h. any-held p k x (list_any p xs) h
        | Greater ↦ λ h. ap (λ b. p x || b) (any-insert p k xs) ∙ or-swap (p x) (p k) (list_any p xs)
      ] refl

-- ---- of rows
pub sorted-in-order : (rs : List PairRow) → IsStrictlySortedBy row_cmp (in_order rs)
unfolding IsStrictlySortedBy
sorted-in-order [] = tt
sorted-in-order (r ∷ rs) = insert-sorted rows_total exact_rows r (in_order rs) (sorted-in-order rs)

pub all-in-order : (P : PairRow → Type 0) (rs : List PairRow) → AllByRecursion P rs → AllByRecursion P (in_order rs)
all-in-order P [] a = tt
all-in-order P (r ∷ rs) a = all-insert P row_cmp r a.0 (in_order rs) (all-in-order P rs a.1)

pub any-in-order : (p : PairRow → Bool) (rs : List PairRow) → list_any p (in_order rs) ≡ list_any p rs
any-in-order p [] = refl
any-in-order p (r ∷ rs) = any-insert rows_total exact_rows p r (in_order rs) ∙ ap (λ b. p r || b) (any-in-order p rs)
