-- Counts of ids, one id more.
use Rattle.std.specs.Prelude.{◌≡◌, ◌+◌, ℕ, Bool, true, false, List, Some, cond, unwrap_or, bytes_eq, String, refl}
use Rattle.std.specs.Ordering.{nat_cmp}
use Rattle.std.specs.Cmp.Lexicographic.{slice_cmp}
use Rattle.std.specs.String.{string_bytes, string_cmp}
use Rattle.std.specs.BTreeMap.{BTreeMap, get_by_text, UpdatesBy}
use Rattle.std.specs.declared.alloc.Global.{Global}
use Rattle.std.proofs.Common.{ap, ◌∙◌, arith}
use Rattle.std.proofs.lemmas.Slice.Eq.{bytes_eq-Decides}
use Rattle.std.proofs.lemmas.Map.Text.{btree_map_updates_text}
use Rattle.rule_table.specs.Counts.{count_in}

pub counted_more : (bs : List ℕ) (m n : BTreeMap (String Global) ℕ) (w : ℕ) → UpdatesBy string_cmp (λ k. slice_cmp nat_cmp bs (string_bytes k)) m n (Some w) → w ≡ count_in m bs + 1
    → (other : List ℕ) → count_in n other ≡ cond (bytes_eq bs other) 1 0 + count_in m other
counted_more bs m n w u e other = ap (λ o. unwrap_or o 0) (btree_map_updates_text bs m n (Some w) u other) ∙ each (bytes_eq bs other) refl
  where
    turned : (a b : ℕ) → a ≡ b → a + 1 ≡ 1 + b
    turned a b q = omega (arith, q)

    plain : (a : ℕ) → a ≡ 0 + a
    plain a = omega arith

    each : (b : Bool) → bytes_eq bs other ≡ b → unwrap_or (cond b (Some w) (get_by_text m other)) 0 ≡ cond b 1 0 + count_in m other
    each true h = e ∙ turned (count_in m bs) (count_in m other) (ap (count_in m) ((bytes_eq-Decides bs other).0 h))
    each false h = plain (count_in m other)
