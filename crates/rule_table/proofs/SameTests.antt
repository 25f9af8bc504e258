-- Tests that are true together, and texts, keys and rows that are the same.
use Rattle.std.proofs.Common.{◌≡◌, ◌&&◌, ◌||◌, Bool, true, false, List, [], ◌∷◌, ℕ, Option, Some, None, bytes_eq, refl, sym, ap, ◌∙◌}
use Rattle.std.specs.List.{list_any}
use Rattle.std.proofs.lemmas.Bool.{and_parts}
use Rattle.std.proofs.lemmas.Slice.Eq.{bytes_eq-Decides}
use Rattle.rule_table.specs.declared.key.EntityKey.{EntityKey}
use Rattle.rule_table.specs.Kinds.{same_kind}
use Rattle.rule_table.specs.Order.{same_key}
use Rattle.rule_table.specs.Pairs.{PairRow, same_id, same_row}
use Rattle.rule_table.proofs.SameAsks.{kind_is, kind_same, text_is, text_same}
use Rattle.rule_table.proofs.SameKeys.{key_is, key_self}

-- two tests, each of which is true where the other is
pub same-truth : (a b : Bool) → (a ≡ true → b ≡ true) → (b ≡ true → a ≡ true) → a ≡ b
same-truth true b f g = sym (f refl)
same-truth false true f g = g refl
same-truth false false f g = refl

pub any-same : {A : Type 0} (p q : A → Bool) → ((x : A) → p x ≡ q x) → (xs : List A) → list_any p xs ≡ list_any q xs
any-same p q h [] = refl
any-same p q h (x ∷ xs) = ap (λ b. b || list_any p xs) (h x) ∙ ap (λ b. q x || b) (any-same p q h xs)

-- ---- the same either way
pub text-symm : (a b : List ℕ) → bytes_eq a b ≡ bytes_eq b a
text-symm a b = same-truth (bytes_eq a b) (bytes_eq b a) (λ h. ap (bytes_eq b) (text_is a b h) ∙ text_same b) (λ h. ap (bytes_eq a) (text_is b a h) ∙ text_same a)

pub key-symm : (a b : EntityKey) → same_key a b ≡ same_key b a
key-symm a b = same-truth (same_key a b) (same_key b a) (λ h. ap (same_key b) (key_is a b h) ∙ key_self b) (λ h. ap (same_key a) (key_is b a h) ∙ key_self a)

-- ---- rows that are the same are one
pub id_is : (a b : Option (List ℕ)) → same_id a b ≡ true → a ≡ b
id_is None None h = refl
id_is None (Some b) h = cc
id_is (Some a) None h = cc
id_is (Some a) (Some b) h = ap Some (text_is a b h)

pub row_is : (a b : PairRow) → same_row a b ≡ true → a ≡ b
row_is a b h =
    let p = and_parts (same_kind a.kind b.kind && same_key a.key b.key && same_id a.trip b.trip) (same_id a.vehicle b.vehicle) h in
    let q = and_parts (same_kind a.kind b.kind && same_key a.key b.key) (same_id a.trip b.trip) p.0 in
    let r = and_parts (same_kind a.kind b.kind) (same_key a.key b.key) q.0 in
    ap (λ x. let z : PairRow = record { kind = x; key = a.key; trip = a.trip; vehicle = a.vehicle } in z) (kind_is a.kind b.kind r.0)
    ∙ ap (λ x. let z : PairRow = record { kind = b.kind; key = x; trip = a.trip; vehicle = a.vehicle } in z) (key_is a.key b.key r.1)
    ∙ ap (λ x. let z : PairRow = record { kind = b.kind; key = b.key; trip = x; vehicle = a.vehicle } in z) (id_is a.trip b.trip q.1)
    ∙ ap (λ x. let z : PairRow = record { kind = b.kind; key = b.key; trip = b.trip; vehicle = x } in z) (id_is a.vehicle b.vehicle p.1)

pub row_self : (r : PairRow) → same_row r r ≡ true
row_self r = all (same_kind r.kind r.kind) (same_key r.key r.key) (same_id r.trip r.trip) (same_id r.vehicle r.vehicle) (kind_same r.kind) (key_self r.key) (id_self r.trip) (id_self r.vehicle)
  where
    id_self : (o : Option (List ℕ)) → same_id o o ≡ true
    id_self None = refl
    id_self (Some id) = text_same id

    all : (a b c d : Bool) → a ≡ true → b ≡ true → c ≡ true → d ≡ true → (a && b && c && d) ≡ true
    all a b c d h i j k = cc
