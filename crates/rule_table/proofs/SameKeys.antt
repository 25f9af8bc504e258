-- Keys of entities: their order, and when two are the same.
use Rattle.std.proofs.Common.{◌≡◌, ℕ, Bool, true, false, ◌==◌, ◌&&◌, refl, sym, ◌∙◌, ap, eq-eqb}
use Rattle.std.proofs.lemmas.Bool.{and_parts, and_from, eqb-true}
use Rattle.std.proofs.lemmas.Slice.Eq.{bytes_eq-Decides}
use Rattle.std.specs.Prelude.{bytes_eq}
use Rattle.std.specs.declared.cmp.Ordering.{Ordering}
use Rattle.std.specs.declared.cmp.Ordering.TheVariants.{Less, Equal, Greater}
use Rattle.std.specs.Ordering.{nat_cmp, ordering_then, is_eq, eq_by_cmp}
use Rattle.std.specs.Cmp.{IsTotalOrder, unsigned_ties}
use Rattle.std.specs.Cmp.Lexicographic.{slice_cmp, nat_list_cmp_total}
use Rattle.std.proofs.lemmas.Cmp.{nat_cmp_total, on_total, then_total}
use Rattle.std.proofs.lemmas.Map.Text.{is_eq-slice_cmp}
use Rattle.rule_table.specs.declared.key.EntityKey.{EntityKey}
use Rattle.rule_table.specs.Order.{key_cmp, same_key}

pub keys_total : IsTotalOrder key_cmp
keys_total = then_total (on_total (λ k. k.feed) nat_cmp_total) (then_total (on_total (λ k. k.id) nat_list_cmp_total) (on_total (λ k. k.occurrence) nat_cmp_total))

pub then-eq : (a b : Ordering) → is_eq (ordering_then a b) ≡ (is_eq a && is_eq b)
then-eq Less b = refl
then-eq Equal b = refl
then-eq Greater b = refl

pub same-number : (a b : ℕ) → is_eq (nat_cmp a b) ≡ (a == b)
same-number a b = sym (unsigned_ties a b)

and-apart : (a b c : Bool) → ((a && b) && c) ≡ (a && (b && c))
and-apart true b c = refl
and-apart false b c = refl

-- keys that compare alike are the same
pub same-key : (a b : EntityKey) → eq_by_cmp key_cmp a b ≡ same_key a b
same-key a b =
    then-eq (nat_cmp a.feed b.feed) (ordering_then (slice_cmp nat_cmp a.id b.id) (nat_cmp a.occurrence b.occurrence))
    ∙ ap (λ x. x && is_eq (ordering_then (slice_cmp nat_cmp a.id b.id) (nat_cmp a.occurrence b.occurrence))) (same-number a.feed b.feed)
    ∙ ap (λ x. (a.feed == b.feed) && x) (then-eq (slice_cmp nat_cmp a.id b.id) (nat_cmp a.occurrence b.occurrence)
    ∙ ap (λ x. x && is_eq (nat_cmp a.occurrence b.occurrence)) (is_eq-slice_cmp a.id b.id) ∙ ap (λ x. bytes_eq a.id b.id && x) (same-number a.occurrence b.occurrence))
    ∙ sym (and-apart (a.feed == b.feed) (bytes_eq a.id b.id) (a.occurrence == b.occurrence))

-- ---- keys that are the same
pub key_is : (k l : EntityKey) → same_key k l ≡ true → k ≡ l
key_is k l h =
    let p = and_parts (k.feed == l.feed && bytes_eq k.id l.id) (k.occurrence == l.occurrence) h in
    let q = and_parts (k.feed == l.feed) (bytes_eq k.id l.id) p.0 in
    make (eqb-true k.feed l.feed q.0) ((bytes_eq-Decides k.id l.id).0 q.1) (eqb-true k.occurrence l.occurrence p.1)
  where
    make : k.feed ≡ l.feed → k.id ≡ l.id → k.occurrence ≡ l.occurrence → k ≡ l
    make f i o =
        ap (λ x. let r : EntityKey = record { feed = x; id = k.id; occurrence = k.occurrence } in r) f
        ∙ ap (λ x. let r : EntityKey = record { feed = l.feed; id = x; occurrence = k.occurrence } in r) i
        ∙ ap (λ x. let r : EntityKey = record { feed = l.feed; id = l.id; occurrence = x } in r) o

pub key_self : (k : EntityKey) → same_key k k ≡ true
key_self k =
    and_from (k.feed == k.feed && bytes_eq k.id k.id) (k.occurrence == k.occurrence)
    (and_from (k.feed == k.feed) (bytes_eq k.id k.id) (eq-eqb k.feed k.feed refl) ((bytes_eq-Decides k.id k.id).1 refl))
    (eq-eqb k.occurrence k.occurrence refl)

pub key_other : (k l : EntityKey) → same_key k l ≡ false → k ≡ l → ⊥
key_other k l n e = let t : same_key k l ≡ true = ap (same_key k) (sym e) ∙ key_self k in cc
