-- Keys in order, and the entities of a snapshot under their keys.
use Rattle.std.specs.Prelude.{◌≡◌, ℕ, false, cond, List, [], ◌∷◌, ◌++◌, Option, Some, option_map, true, Bool, refl}
use Rattle.std.specs.List.{find}
use Rattle.std.proofs.Common.{arith, ◌∙◌, ap, sym, subst, append-nil, append_assoc}
use Rattle.std.specs.Ordering.{ordering_reverse, match_ordering, nat_cmp, is_eq, ordering_then}
use Rattle.std.specs.declared.cmp.Ordering.{Ordering}
use Rattle.std.specs.declared.cmp.Ordering.TheVariants as order
use Rattle.std.specs.BTreeMap.{insert_entry, is_at}
use Rattle.std.specs.Map.{lookup}
use Rattle.std.specs.Cmp.Lexicographic.{slice_cmp, texts_ties}
use Rattle.std.proofs.lemmas.Slice.Eq.{bytes_eq-Decides}
use Rattle.std.proofs.lemmas.Bool.Decides.{nat_tests}
use Rattle.rule_table.specs.declared.key.EntityKey.{EntityKey}
use Rattle.rule_table.specs.Order.{key_cmp, same_key}
use Rattle.rule_table.specs.Groups.{Each}
use Rattle.rule_table.specs.GroupLaws.{each_weaken}
use Rattle.rule_history.specs.History.{Keyed, ordered_after}
use Rattle.rule_history.specs.Answered.{payload_under}
pub use Rattle.rule_table.specs.Rises.{Rising}
pub use Rattle.rule_table.proofs.SameKeys.{keys_total}
pub use Rattle.rule_history.proofs.Keyed.{each_insert, rising_insert, rising_after, entities_rise, entities_feed}
use Rattle.engine_laws.specs.HeldFeeds.{AreApart}
use Rattle.engine_laws.proofs.Spots.{is_false, key_is, key_self, key_other}

-- what is in order with itself is equal to itself
pub itself : (o : Ordering) → o ≡ ordering_reverse o → o ≡ order.Equal
itself order.Less h = cc
itself order.Equal h = refl
itself order.Greater h = cc

pub key_cmp_self : (k : EntityKey) → key_cmp k k ≡ order.Equal
key_cmp_self k = itself (key_cmp k k) (keys_total.antisymm k k)

pub less_other : (k l : EntityKey) → key_cmp k l ≡ order.Less → same_key k l ≡ false
less_other k l h = is_false (same_key k l) (λ e. clash (ap (λ x. key_cmp x l) (key_is k l e) ∙ key_cmp_self l))
  where
    clash : key_cmp k l ≡ order.Equal → ⊥
    clash e = cc (h, e)

-- ---- what compares alike
pub then_equal : (a b : Ordering) → ordering_then a b ≡ order.Equal → (a ≡ order.Equal) × (b ≡ order.Equal)
then_equal order.Less b h = cc
then_equal order.Equal b h = (refl, h)
then_equal order.Greater b h = cc

pub nat_equal : (a b : ℕ) → nat_cmp a b ≡ order.Equal → a ≡ b
nat_equal a b h = grind (arith, nat_tests)

pub text_equal : (a b : List ℕ) → slice_cmp nat_cmp a b ≡ order.Equal → a ≡ b
text_equal a b h = (bytes_eq-Decides a b).0 (texts_ties a b ∙ ap is_eq h)

pub cmp_equal : (k l : EntityKey) → key_cmp k l ≡ order.Equal → k ≡ l
cmp_equal k l h =
    let p = then_equal (nat_cmp k.feed l.feed) (ordering_then (slice_cmp nat_cmp k.id l.id) (nat_cmp k.occurrence l.occurrence)) h in
    let q = then_equal (slice_cmp nat_cmp k.id l.id) (nat_cmp k.occurrence l.occurrence) p.1 in
    make (nat_equal k.feed l.feed p.0) (text_equal k.id l.id q.0) (nat_equal k.occurrence l.occurrence q.1)
  where
    make : k.feed ≡ l.feed → k.id ≡ l.id → k.occurrence ≡ l.occurrence → k ≡ l
    make f i o =
        ap (λ x. let r : EntityKey = record { feed = x; id = k.id; occurrence = k.occurrence } in r) f
        ∙ ap (λ x. let r : EntityKey = record { feed = l.feed; id = x; occurrence = k.occurrence } in r) i
        ∙ ap (λ x. let r : EntityKey = record { feed = l.feed; id = l.id; occurrence = x } in r) o

pub apart_rising : {A : Type 0} (es : List (EntityKey × A)) → Rising es → AreApart es
apart_rising [] h = tt
apart_rising (e ∷ es) h = (each_weaken (λ d. key_cmp e.0 d.0 ≡ order.Less) (λ d. same_key e.0 d.0 ≡ false) (λ d l. less_other e.0 d.0 l) es h.0, apart_rising es h.1)

-- each entity is what is found under its key
pub found_under : (es : List Keyed) → AreApart es → Each (λ e. payload_under e.0 es ≡ Some e.1) es
found_under [] h = tt
found_under (e ∷ es) h = (first, each_weaken (λ d. (same_key e.0 d.0 ≡ false) × (payload_under d.0 es ≡ Some d.1)) (λ d. payload_under d.0 (e ∷ es) ≡ Some d.1) (λ d m. later d m.0 m.1) es (each_both es h.0 (found_under es h.1)))
  where
    first : payload_under e.0 (e ∷ es) ≡ Some e.1
    first = ap (λ b. option_map (λ (x : Keyed). x.1) (cond b (Some e) (find (λ x. same_key x.0 e.0) es))) (key_self e.0)

    later : (d : Keyed) → same_key e.0 d.0 ≡ false → payload_under d.0 es ≡ Some d.1 → payload_under d.0 (e ∷ es) ≡ Some d.1
    later d n m = ap (λ b. option_map (λ (x : Keyed). x.1) (cond b (Some e) (find (λ x. same_key x.0 d.0) es))) n ∙ m

    each_both : (ds : List Keyed) → Each (λ d. same_key e.0 d.0 ≡ false) ds → Each (λ d. payload_under d.0 es ≡ Some d.1) ds → Each (λ d. (same_key e.0 d.0 ≡ false) × (payload_under d.0 es ≡ Some d.1)) ds
    each_both [] a b = tt
    each_both (d ∷ ds) a b = ((a.0, b.0), each_both ds a.1 b.1)

-- ---- maps by key
-- what a map has under a key is what a list of entries has
pub lookup-under : {A : Type 0} (es : List (EntityKey × A)) (k : EntityKey) → lookup (is_at (key_cmp k)) es ≡ option_map (λ e. e.1) (find (λ e. same_key e.0 k) es)
lookup-under [] k = refl
lookup-under {A} (e ∷ es) k = one (find (λ d. same_key d.0 k) es) (is_eq (key_cmp k e.0)) (same_key e.0 k) (alike k e.0) (lookup-under es k)
  where
    one : {x : Option A} (y : Option (EntityKey × A)) (b c : Bool) → b ≡ c → x ≡ option_map (λ (d : EntityKey × A). d.1) y → cond b (Some e.1) x ≡ option_map (λ (d : EntityKey × A). d.1) (cond c (Some e) y)
    one y true true h i = refl
    one y false false h i = i
    one y true false h i = cc
    one y false true h i = cc

    not_alike : (o : Ordering) → (o ≡ order.Equal → ⊥) → is_eq o ≡ false
    not_alike order.Less h = refl
    not_alike order.Equal h = absurd (h refl)
    not_alike order.Greater h = refl

    alike : (k l : EntityKey) → is_eq (key_cmp k l) ≡ same_key l k
    alike k l =
        elim (same_key l k) as (λ b. same_key l k ≡ b → is_eq (key_cmp k l) ≡ b) [
          | true ↦ λ e. ap is_eq (ap (key_cmp k) (key_is l k e) ∙ key_cmp_self k)
          | false ↦ λ n. not_alike (key_cmp k l) (λ q. key_other l k n (sym (cmp_equal k l q)))
        ] refl

-- entries whose keys rise are in order as they are
last-insert : {A : Type 0} (es : List (EntityKey × A)) (k : EntityKey) (v : A) → Each (λ e. key_cmp k e.0 ≡ order.Greater) es → insert_entry key_cmp es k v ≡ es ++ (k, v) ∷ []
last-insert [] k v h = refl
last-insert (e ∷ es) k v h =
    ap (λ o. match_ordering o ((k, v) ∷ e ∷ es) ((e.0, v) ∷ es) (e ∷ insert_entry key_cmp es k v)) h.0 ∙ ap (λ xs. e ∷ xs) (last-insert es k v h.1)

above-all : {A : Type 0} (done es : List (EntityKey × A)) (e : EntityKey × A) → Rising (done ++ e ∷ es) → Each (λ d. key_cmp e.0 d.0 ≡ order.Greater) done
above-all [] es e h = tt
above-all {A} (d ∷ done) es e h = (keys_total.antisymm e.0 d.0 ∙ ap ordering_reverse (in_middle done h.0), above-all done es e h.1)
  where
    in_middle : (xs : List (EntityKey × A)) → Each (λ x. key_cmp d.0 x.0 ≡ order.Less) (xs ++ e ∷ es) → key_cmp d.0 e.0 ≡ order.Less
    in_middle [] k = k.0
    in_middle (x ∷ xs) k = in_middle xs k.1

ordered-on : {A : Type 0} (done es : List (EntityKey × A)) → Rising (done ++ es) → ordered_after done es ≡ done ++ es
ordered-on done [] h = sym (append-nil done)
ordered-on {A} done (e ∷ es) h =
    ap (λ xs. ordered_after xs es) (last-insert done e.0 e.1 (above-all done es e h))
    ∙ ordered-on (done ++ e ∷ []) es (subst (λ (xs : List (EntityKey × A)). Rising xs) (sym (append_assoc done (e ∷ []) es)) h)
    ∙ append_assoc done (e ∷ []) es

pub ordered-rising : {A : Type 0} (es : List (EntityKey × A)) → Rising es → ordered_after [] es ≡ es
ordered-rising es h = ordered-on [] es h
