-- Sets of texts, one text more, and the rows that give one of them.
use Rattle.std.specs.Prelude.{◌≡◌, ℕ, Bool, true, false, cond, ◌&&◌, ◌||◌, List, Option, Some, None, bytes_eq, refl}
use Rattle.std.specs.List.{list_any}
use Rattle.std.specs.Ordering.{nat_cmp}
use Rattle.std.specs.Cmp.Lexicographic.{slice_cmp}
use Rattle.std.specs.BTreeMap.{is_at}
use Rattle.std.specs.BTreeSet.{BTreeSet}
use Rattle.std.proofs.Common.{sym, ap, ◌∙◌}
use Rattle.std.proofs.lemmas.Map.Text.{is_eq-slice_cmp}
use Rattle.rule_table.specs.declared.key.EntityKey.{EntityKey}
use Rattle.rule_table.specs.Order.{same_key}
use Rattle.rule_table.specs.Pairs.{PairRow, is_id}
use Rattle.rule_table.proofs.SameTests.{any-same}
use Rattle.row_changes.specs.Ids.{has_given}
use Rattle.row_changes.proofs.Lists.{any-and, any-turned, any_false}

pub text-put : (k q : List ℕ) (old : Bool) → cond (is_at (slice_cmp nat_cmp k) q) true old ≡ (old || bytes_eq k q)
text-put k q old = ap (λ b. cond b true old) (is_eq-slice_cmp k q) ∙ either (bytes_eq k q) old
  where
    either : (b old : Bool) → cond b true old ≡ (old || b)
    either true true = refl
    either true false = refl
    either false true = refl
    either false false = refl

given-any : (ids : BTreeSet (List ℕ)) (o : Option (List ℕ)) → list_any (λ q. is_id q o) ids.keys ≡ has_given ids o
given-any ids None = any_false ids.keys
given-any ids (Some t) = any-same (λ q. bytes_eq t q) (is_at (slice_cmp nat_cmp t)) (λ q. sym (is_eq-slice_cmp t q)) ids.keys

-- the rows of a key that give some id, asked id by id
pub rows-given : (ids : BTreeSet (List ℕ)) (of : PairRow → Option (List ℕ)) (key : EntityKey) (rows : List PairRow) →
    list_any (λ (q : List ℕ). list_any (λ r. is_id q (of r) && same_key key r.key) rows) ids.keys ≡ list_any (λ r. has_given ids (of r) && same_key key r.key) rows
rows-given ids of key rows =
    any-turned (λ q r. is_id q (of r) && same_key key r.key) ids.keys rows
    ∙ any-same _ (λ r. has_given ids (of r) && same_key key r.key) (λ r. any-and (λ q. is_id q (of r)) (same_key key r.key) ids.keys ∙ ap (λ b. b && same_key key r.key) (given-any ids (of r))) rows
