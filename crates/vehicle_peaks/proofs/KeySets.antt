-- Keys that are put into a set and taken out of it.
use Rattle.std.specs.Prelude.{◌≡◌, ◌+◌, ◌<◌, ℕ, Bool, true, false, not, cond, ◌&&◌, ◌||◌, List, ◌∷◌, length, get_or, drop, refl}
use Rattle.std.specs.BTreeMap.{is_at}
use Rattle.std.specs.BTreeSet.{BTreeSet, contains}
use Rattle.std.specs.Cmp.{eq_by_cmp_equiv}
use Rattle.std.specs.List.{list_any}
use Rattle.std.proofs.Common.{◌∙◌, ap, sym}
use Rattle.std.proofs.lemmas.List.{drop_more}
use Rattle.rule_table.specs.declared.key.EntityKey.{EntityKey}
use Rattle.rule_table.specs.Order.{key_cmp, same_key}
use Rattle.rule_table.proofs.SameKeys.{keys_total, same-key}
use Rattle.rule_table.proofs.SameTests.{any-same}

at-key : (k key : EntityKey) → is_at (key_cmp k) key ≡ same_key key k
at-key k key = (eq_by_cmp_equiv keys_total).symm k key ∙ same-key key k

-- what a set holds is among its keys
pub in-set : (key : EntityKey) (keys : BTreeSet EntityKey) → contains key_cmp keys key ≡ list_any (same_key key) keys.keys
in-set key keys = any-same (is_at (key_cmp key)) (same_key key) (same-key key) keys.keys

-- one key in, if it is to go there
pub key-put : (k key one : EntityKey) (old : Bool) → one ≡ k → cond (is_at (key_cmp one) key) true old ≡ (old || (same_key key k && true))
key-put k key one old e = ap (λ b. cond b true old) (at-key one key ∙ ap (same_key key) e) ∙ either (same_key key k) old
  where
    either : (b old : Bool) → cond b true old ≡ (old || (b && true))
    either true true = refl
    either true false = refl
    either false true = refl
    either false false = refl

pub key-not_put : (key k : EntityKey) (old : Bool) → old ≡ (old || (same_key key k && false))
key-not_put key k old = either (same_key key k) old
  where
    either : (b old : Bool) → old ≡ (old || (b && false))
    either true true = refl
    either true false = refl
    either false true = refl
    either false false = refl

-- one key out, of which one is less to go
pub key_out : (gone : List EntityKey) (i : ℕ) (k key : EntityKey) (new old all : Bool) → i < length gone → k ≡ get_or gone i k → new ≡ cond (is_at (key_cmp k) key) false old
    → (not (list_any (same_key key) (drop i gone)) && old) ≡ all → (not (list_any (same_key key) (drop (i + 1) gone)) && new) ≡ all
key_out gone i k key new old all l is n h =
    ap (λ b. not (list_any (same_key key) (drop (i + 1) gone)) && b) (n ∙ ap (λ b. cond b false old) (at-key k key))
    ∙ either (same_key key k) (list_any (same_key key) (drop (i + 1) gone)) old ∙ ap (λ ks. not (list_any (same_key key) ks) && old) (sym first) ∙ h
  where
    first : drop i gone ≡ k ∷ drop (i + 1) gone
    first = drop_more gone i k l ∙ ap (λ q. q ∷ drop (i + 1) gone) (sym is)

    either : (b rest old : Bool) → (not rest && cond b false old) ≡ (not (b || rest) && old)
    either true true old = refl
    either true false old = refl
    either false rest old = refl
