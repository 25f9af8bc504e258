-- How many entities of a snapshot are new or have other bytes.
use Rattle.std.specs.Prelude.{◌≡◌, ℕ, suc, ◌+◌, Bool, true, false, cond, List, [], ◌∷◌, length, refl}
use Rattle.std.proofs.Common.{◌∙◌, ap, sym, arith}
use Rattle.std.specs.Ordering.{match_ordering}
use Rattle.std.specs.declared.cmp.Ordering.TheVariants as order
use Rattle.std.specs.BTreeMap.{insert_entry}
use Rattle.rule_table.specs.declared.key.EntityKey.{EntityKey}
use Rattle.rule_table.specs.Groups.{Each}
use Rattle.rule_table.specs.Order.{key_cmp, same_key}
use Rattle.rule_history.specs.History.{Keyed, ordered_after}
use Rattle.rule_history.specs.Changed.{count_of}
use Rattle.engine_laws.specs.HeldFeeds.{AreApart}
use Rattle.engine_laws.specs.Delta.{is_other}
use Rattle.engine_laws.proofs.Sorted.{cmp_equal, each_insert}
use Rattle.engine_laws.proofs.Spots.{key_other}
use Rattle.entity_index.specs.Changes.{fresh_from}

-- places are as many as entities that are other
pub length-fresh : (before : List Keyed) (i : ℕ) (es : List Keyed) → length (fresh_from before i es) ≡ count_of (is_other before) es
length-fresh before i [] = refl
length-fresh before i (e ∷ es) = either (is_other before e) (length-fresh before (i + 1) es)
  where
    one : (n : ℕ) → suc n ≡ 1 + n
    one n = omega arith

    none : (n : ℕ) → n ≡ 0 + n
    none n = omega arith

    either : (b : Bool) → length (fresh_from before (i + 1) es) ≡ count_of (is_other before) es →
        length (cond b (i ∷ fresh_from before (i + 1) es) (fresh_from before (i + 1) es)) ≡ cond b 1 0 + count_of (is_other before) es
    either true h = ap suc h ∙ one (count_of (is_other before) es)
    either false h = h ∙ none (count_of (is_other before) es)

-- entities put in order are as many
count-insert : (test : Keyed → Bool) (es : List Keyed) (k : EntityKey) (v : List ℕ) → Each (λ e. same_key e.0 k ≡ false) es → count_of test (insert_entry key_cmp es k v) ≡ cond (test (k, v)) 1 0 + count_of test es
count-insert test [] k v h = refl
count-insert test (e ∷ es) k v h =
    elim (key_cmp k e.0) as (λ o. key_cmp k e.0 ≡ o → count_of test (match_ordering o ((k, v) ∷ e ∷ es) ((e.0, v) ∷ es) (e ∷ insert_entry key_cmp es k v)) ≡ cond (test (k, v)) 1 0 + count_of test (e ∷ es)) [
      | order.Less ↦ λ _. refl
      | order.Equal ↦ λ q. absurd (key_other e.0 k h.0 (sym (cmp_equal k e.0 q)))
      | order.Greater ↦ λ _. ap (λ n. cond (test e) 1 0 + n) (count-insert test es k v h.1) ∙ moved (cond (test e) 1 0) (cond (test (k, v)) 1 0) (count_of test es)
    ] refl
  where
    moved : (a b c : ℕ) → a + (b + c) ≡ b + (a + c)
    moved a b c = omega arith

pub count-ordered : (test : Keyed → Bool) (done es : List Keyed) → Each (λ e. Each (λ d. same_key d.0 e.0 ≡ false) done) es → AreApart es → count_of test (ordered_after done es) ≡ count_of test es + count_of test done
count-ordered test done [] h a = none (count_of test done)
  where
    none : (n : ℕ) → n ≡ 0 + n
    none n = omega arith
count-ordered test done (e ∷ es) h a =
    count-ordered test (insert_entry key_cmp done e.0 e.1) es (still es h.1 a.0) a.1 ∙ ap (λ n. count_of test es + n) (count-insert test done e.0 e.1 h.0)
    ∙ moved (cond (test e) 1 0) (count_of test es) (count_of test done)
  where
    moved : (a b c : ℕ) → b + (a + c) ≡ (a + b) + c
    moved a b c = omega arith

    still : (ds : List Keyed) → Each (λ d. Each (λ x. same_key x.0 d.0 ≡ false) done) ds → Each (λ d. same_key e.0 d.0 ≡ false) ds → Each (λ d. Each (λ x. same_key x.0 d.0 ≡ false) (insert_entry key_cmp done e.0 e.1)) ds
    still [] p q = tt
    still (d ∷ ds) p q = (each_insert (λ l. same_key l d.0 ≡ false) done e.0 e.1 q.0 p.0, still ds p.1 q.1)
