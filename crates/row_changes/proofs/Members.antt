-- Lists with the same rows, and rows that came or went.
use Rattle.std.specs.Prelude.{◌≡◌, Bool, true, false, not, ◌&&◌, ◌||◌, List, [], ◌∷◌, refl}
use Rattle.std.specs.List.{list_any}
use Rattle.std.proofs.Common.{sym, ap, ◌∙◌}
use Rattle.std.proofs.lemmas.List.Folds.{list_any-append}
use Rattle.std.proofs.lemmas.Bool.{or_right, or_left}
use Rattle.rule_table.specs.Groups.{Each}
use Rattle.rule_table.specs.GroupLaws.{each_weaken}
use Rattle.rule_table.specs.Pairs.{PairRow, same_row, has_row}
use Rattle.rule_history.specs.Changed.{rows_without, changed_rows, differ}
use Rattle.rule_table.proofs.SameTests.{row_is, same-truth, row_self}
use Rattle.pairing_rules.proofs.Members.{has-filter}

pub row-symm : (a b : PairRow) → same_row a b ≡ same_row b a
row-symm a b = same-truth (same_row a b) (same_row b a) (λ h. ap (same_row b) (row_is a b h) ∙ row_self b) (λ h. ap (same_row a) (row_is b a h) ∙ row_self a)

-- ---- a test is true of a row of each of two lists, or of none
there_self : (u : List PairRow) → Each (λ r. has_row u r ≡ true) u
there_self [] = tt
there_self (r ∷ u) = (ap (λ b. b || has_row u r) (row_self r), each_weaken (λ c. has_row u c ≡ true) (λ c. has_row (r ∷ u) c ≡ true) (λ c h. or_right (same_row c r) (has_row u c) h) u (there_self u))

found-in : (p : PairRow → Bool) (v : List PairRow) (r : PairRow) → p r ≡ true → has_row v r ≡ true → list_any p v ≡ true
found-in p [] r t h = cc
found-in p (x ∷ v) r t h =
    elim (same_row r x) as (λ b. same_row r x ≡ b → (b || has_row v r) ≡ true → list_any p (x ∷ v) ≡ true) [
      | true ↦ λ e _. or_left (p x) (list_any p v) (ap p (sym (row_is r x e)) ∙ t)
      | false ↦ λ _ k. or_right (p x) (list_any p v) (found-in p v r t k)
    ] refl h

each-found : (p : PairRow → Bool) (u v : List PairRow) → Each (λ r. has_row v r ≡ true) u → list_any p u ≡ true → list_any p v ≡ true
each-found p [] v all h = cc
each-found p (x ∷ u) v all h =
    elim (p x) as (λ b. p x ≡ b → (b || list_any p u) ≡ true → list_any p v ≡ true) [
      | true ↦ λ t _. found-in p v x t all.0
      | false ↦ λ _ k. each-found p u v all.1 k
    ] refl h

pub any-members : (p : PairRow → Bool) (u v : List PairRow) → ((r : PairRow) → has_row u r ≡ has_row v r) → list_any p u ≡ list_any p v
any-members p u v h =
    same-truth (list_any p u) (list_any p v)
    (each-found p u v (each_weaken (λ r. has_row u r ≡ true) (λ r. has_row v r ≡ true) (λ r k. sym (h r) ∙ k) u (there_self u)))
    (each-found p v u (each_weaken (λ r. has_row v r ≡ true) (λ r. has_row u r ≡ true) (λ r k. h r ∙ k) v (there_self v)))

-- ---- rows that came or went are those of one of two lists
pub has-changed : (u v : List PairRow) (r : PairRow) → has_row (changed_rows u v) r ≡ differ (has_row u r) (has_row v r)
has-changed u v r =
    list_any-append (same_row r) (rows_without v u) (rows_without u v)
    ∙ ap (λ b. b || has_row (rows_without u v) r) (has-filter (λ x. not (has_row u x)) v r) ∙ ap (λ b. has_row v r && not (has_row u r) || b) (has-filter (λ x. not (has_row v x)) u r)
    ∙ either (has_row u r) (has_row v r)
  where
    either : (a b : Bool) → (b && not a || a && not b) ≡ differ a b
    either true true = refl
    either true false = refl
    either false true = refl
    either false false = refl

pub differ-same : (b : Bool) → differ b b ≡ false
differ-same true = refl
differ-same false = refl
