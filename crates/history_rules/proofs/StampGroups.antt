-- Groups of stamps before and after one key changes.
use Rattle.std.proofs.Common.{◌≡◌, ◌<◌, ◌≤◌, ◌^◌, ℕ, ◌==◌, Bool, true, false, cond, not, ◌&&◌, ◌||◌, List, [], ◌∷◌, ◌++◌, Some, None, refl, sym, ◌∙◌, ap, arith}
use Rattle.std.specs.Ordering.{is_eq, is_lt, eq_by_cmp, nat_cmp, ordering_then}
use Rattle.std.specs.Prelude.{nat_lt}
use Rattle.std.proofs.lemmas.Bool.Decides.{nat_tests}
use Rattle.std.specs.Cmp.{Equal-is, IsTotalOrder, eq_by_cmp_equiv}
use Rattle.std.specs.BTreeMap.Range.{range_contains, entries_between}
use Rattle.std.specs.declared.ops.Bound.TheVariants.{Excluded, Included}
use Rattle.std.specs.BTreeMap.{BTreeMap, is_at, get}
use Rattle.std.specs.BTreeSet.{BTreeSet, contains}
use Rattle.rule_table.specs.declared.key.EntityKey.{EntityKey}
use Rattle.history_rules.specs.declared.moment.Moment.{Moment}
use Rattle.rule_table.specs.Order.{key_cmp, same_key}
use Rattle.std.specs.List.{list_any, AllByRecursion}
use Rattle.std.specs.List.Sorted.{IsStrictlySortedBy}
use Rattle.std.specs.Map.{keys_of, lookup}
use Rattle.history_rules.specs.Stamps.{Stamp, same_stamp, stamps_at, stamps_of, holds, is_above}
use Rattle.history_rules.specs.StampGroups.{moment_cmp, key_in, has_at, between, in_groups, AreSmall}
use Rattle.rule_table.proofs.SameKeys.{keys_total, same-key, then-eq, same-number}
use Rattle.rule_table.proofs.SameTests.{any-same}
use Rattle.std.proofs.lemmas.Map.Lookups.{CmpEqualImpliesEq, exact_unsigned}
use Rattle.std.proofs.lemmas.Cmp.{nat_cmp_total, on_total, then_total}
use Rattle.std.proofs.Math.Bool.{or-true, or-false}
use Rattle.std.specs.declared.cmp.Ordering.{Ordering}
use Rattle.std.specs.declared.cmp.Ordering.TheVariants.{Less, Equal, Greater}

pub moments_total : IsTotalOrder moment_cmp
moments_total = then_total (on_total (λ m. m.feed) nat_cmp_total) (on_total (λ m. m.stamp) nat_cmp_total)

both-equal : (a b : Ordering) → ordering_then a b ≡ Equal → (a ≡ Equal) × (b ≡ Equal)
both-equal Less b h = cc
both-equal Equal b h = (refl, h)
both-equal Greater b h = cc

pub exact_moments : CmpEqualImpliesEq moment_cmp
exact_moments a b h =
    let e = both-equal (nat_cmp a.feed b.feed) (nat_cmp a.stamp b.stamp) h in
    ap (λ x. let m : Moment = record { feed = x; stamp = a.stamp } in m) (exact_unsigned a.feed b.feed e.0) ∙ ap (λ x. let m : Moment = record { feed = b.feed; stamp = x } in m) (exact_unsigned a.stamp b.stamp e.1)

module _ (at : Moment) (key : EntityKey) (m n : BTreeMap Moment (BTreeSet EntityKey)) (w : BTreeSet EntityKey) (u : (q : Moment) → get moment_cmp n q ≡ cond (is_at (moment_cmp at) q) (Some w) (get moment_cmp m q)) where
  -- a key was put into the group of a moment
  pub stamp_put : ((k : EntityKey) → contains key_cmp w k ≡ cond (is_at (key_cmp key) k) true (has_at m at k))
      → (q : Moment) (k : EntityKey) → has_at n q k ≡ ((is_eq (moment_cmp at q) && eq_by_cmp key_cmp key k) || has_at m q k)
  stamp_put h q k = ap (key_in k) (u q) ∙ each (is_eq (moment_cmp at q)) refl
    where
      same : (b x : Bool) → cond b true x ≡ (b || x)
      same true x = refl
      same false x = refl

      each : (b : Bool) → is_eq (moment_cmp at q) ≡ b → key_in k (cond b (Some w) (get moment_cmp m q)) ≡ ((b && eq_by_cmp key_cmp key k) || has_at m q k)
      each true e = h k ∙ same (eq_by_cmp key_cmp key k) _ ∙ ap (λ x. eq_by_cmp key_cmp key k || has_at m x k) (exact_moments at q ((Equal-is (moment_cmp at q)).0 e))
      each false e = refl

  -- a key was taken out of the group of a moment
  pub stamp_taken : ((k : EntityKey) → contains key_cmp w k ≡ cond (is_at (key_cmp key) k) false (has_at m at k))
      → (q : Moment) (k : EntityKey) → has_at n q k ≡ (not (is_eq (moment_cmp at q) && eq_by_cmp key_cmp key k) && has_at m q k)
  stamp_taken h q k = ap (key_in k) (u q) ∙ each (is_eq (moment_cmp at q)) refl
    where
      same : (b x : Bool) → cond b false x ≡ (not b && x)
      same true x = refl
      same false x = refl

      each : (b : Bool) → is_eq (moment_cmp at q) ≡ b → key_in k (cond b (Some w) (get moment_cmp m q)) ≡ (not (b && eq_by_cmp key_cmp key k) && has_at m q k)
      each true e = h k ∙ same (eq_by_cmp key_cmp key k) _ ∙ ap (λ x. not (eq_by_cmp key_cmp key k) && has_at m x k) (exact_moments at q ((Equal-is (moment_cmp at q)).0 e))
      each false e = refl

-- an empty group was taken out
pub stamp_gone : (at : Moment) (m n : BTreeMap Moment (BTreeSet EntityKey)) → ((q : Moment) → get moment_cmp n q ≡ cond (is_at (moment_cmp at) q) None (get moment_cmp m q)) → ((k : EntityKey) → has_at m at k ≡ false)
    → (q : Moment) (k : EntityKey) → has_at n q k ≡ has_at m q k
stamp_gone at m n u h q k = ap (key_in k) (u q) ∙ each (is_eq (moment_cmp at q)) refl
  where
    each : (b : Bool) → is_eq (moment_cmp at q) ≡ b → key_in k (cond b None (get moment_cmp m q)) ≡ has_at m q k
    each true e = sym (h k) ∙ ap (λ x. has_at m x k) (exact_moments at q ((Equal-is (moment_cmp at q)).0 e))
    each false e = refl

-- ---- the list of all stamps, against the groups
abbrev is-stamp : Moment → EntityKey → Stamp → Bool
is-stamp at key s = is_eq (moment_cmp at s.at) && eq_by_cmp key_cmp key s.key

abbrev has : List Stamp → Moment → EntityKey → Bool
has stamps at key = list_any (is-stamp at key) stamps

group-has : (at m : Moment) (k : EntityKey) (ks : List EntityKey) (rest : List Stamp) → has (stamps_at m ks ++ rest) at k ≡ ((is_eq (moment_cmp at m) && list_any (eq_by_cmp key_cmp k) ks) || has rest at k)
group-has at m k [] rest = none (is_eq (moment_cmp at m)) (has rest at k)
  where
    none : (b r : Bool) → r ≡ ((b && false) || r)
    none true r = refl
    none false r = refl
group-has at m k (x ∷ ks) rest =
    ap (λ b. (is_eq (moment_cmp at m) && eq_by_cmp key_cmp k x) || b) (group-has at m k ks rest) ∙ more (is_eq (moment_cmp at m)) (eq_by_cmp key_cmp k x) (list_any (eq_by_cmp key_cmp k) ks) (has rest at k)
  where
    more : (b h a r : Bool) → ((b && h) || ((b && a) || r)) ≡ ((b && (h || a)) || r)
    more true true a r = refl
    more true false a r = refl
    more false h a r = refl

none_later : (m : Moment) (es : List (Moment × BTreeSet EntityKey)) → AllByRecursion (λ y. moment_cmp m y ≡ Less) (keys_of es) → lookup (is_at (moment_cmp m)) es ≡ None
none_later m [] h = refl
none_later m (e ∷ es) h = ap (λ o. cond (is_eq o) (Some e.1) (lookup (is_at (moment_cmp m)) es)) h.0 ∙ none_later m es h.1

has-group : (es : List (Moment × BTreeSet EntityKey)) → IsStrictlySortedBy moment_cmp (keys_of es) → (at : Moment) (k : EntityKey) → has (stamps_of es) at k ≡ key_in k (lookup (is_at (moment_cmp at)) es)
unfolding IsStrictlySortedBy
has-group [] s at k = refl
has-group (e ∷ es) s at k =
    group-has at e.0 k e.1.keys (stamps_of es)
    ∙ (elim (is_eq (moment_cmp at e.0)) as (λ b. is_eq (moment_cmp at e.0) ≡ b → ((b && list_any (eq_by_cmp key_cmp k) e.1.keys) || has (stamps_of es) at k) ≡ key_in k (cond b (Some e.1) (lookup (is_at (moment_cmp at)) es))) [
      | true ↦ λ t.
          let same : at ≡ e.0 = exact_moments at e.0 ((Equal-is (moment_cmp at e.0)).0 t) in
          ap (λ b. list_any (eq_by_cmp key_cmp k) e.1.keys || b) (has-group es s.1 at k ∙ ap (λ m. key_in k (lookup (is_at (moment_cmp m)) es)) same ∙ ap (key_in k) (none_later e.0 es s.0)) ∙ or-false (list_any (eq_by_cmp key_cmp k) e.1.keys)
      | false ↦ λ _. has-group es s.1 at k
    ] refl)

same-moment : (a b : Moment) → is_eq (moment_cmp a b) ≡ (a.feed == b.feed && a.stamp == b.stamp)
same-moment a b =
    then-eq (nat_cmp a.feed b.feed) (nat_cmp a.stamp b.stamp) ∙ ap (λ x. x && is_eq (nat_cmp a.stamp b.stamp)) (same-number a.feed b.feed) ∙ ap (λ x. a.feed == b.feed && x) (same-number a.stamp b.stamp)

-- two stamps are one where their moments and keys compare alike
pub same-stamp : (a b : Stamp) → (is_eq (moment_cmp a.at b.at) && eq_by_cmp key_cmp a.key b.key) ≡ same_stamp a b
same-stamp a b =
    ap (λ x. x && eq_by_cmp key_cmp a.key b.key) (same-moment a.at b.at) ∙ ap (λ x. (a.at.feed == b.at.feed && a.at.stamp == b.at.stamp) && x) (same-key a.key b.key)

-- the list of all stamps, against the groups
pub holds-group : (es : List (Moment × BTreeSet EntityKey)) → IsStrictlySortedBy moment_cmp (keys_of es) → (s : Stamp) → holds (stamps_of es) s ≡ key_in s.key (lookup (is_at (moment_cmp s.at)) es)
holds-group es o s = any-same (same_stamp s) (is-stamp s.at s.key) (λ t. sym (same-stamp s t)) (stamps_of es) ∙ has-group es o s.at s.key

copy_swap : (h a r : Bool) → (cond h true a || r) ≡ (a || (h || r))
copy_swap true true r = refl
copy_swap true false r = refl
copy_swap false a r = refl

-- one more key in the set, one less to go
pub copy_put : (key k x : EntityKey) (old new all : Bool) (keys rest : List EntityKey) → new ≡ cond (is_at (key_cmp k) key) true old → k ≡ x → keys ≡ x ∷ rest
    → (old || list_any (is_at (key_cmp key)) keys) ≡ all → (new || list_any (is_at (key_cmp key)) rest) ≡ all
copy_put key k x old new all keys rest n e s h =
    ap (λ b. b || list_any (is_at (key_cmp key)) rest) (n ∙ ap (λ y. cond (is_at (key_cmp y) key) true old) e ∙ ap (λ b. cond b true old) ((eq_by_cmp_equiv keys_total).symm x key))
    ∙ copy_swap (is_at (key_cmp key) x) old (list_any (is_at (key_cmp key)) rest) ∙ ap (λ xs. old || list_any (is_at (key_cmp key)) xs) (sym s) ∙ h

group_between : (low high m : Moment) (k : EntityKey) (ks : List EntityKey) (rest : List Stamp)
    → list_any (between low high k) (stamps_at m ks ++ rest) ≡ ((range_contains moment_cmp (Excluded low) (Included high) m && list_any (eq_by_cmp key_cmp k) ks) || list_any (between low high k) rest)
group_between low high m k [] rest = none (range_contains moment_cmp (Excluded low) (Included high) m) (list_any (between low high k) rest)
  where
    none : (b r : Bool) → r ≡ ((b && false) || r)
    none true r = refl
    none false r = refl
group_between low high m k (x ∷ ks) rest =
    ap (λ b. (range_contains moment_cmp (Excluded low) (Included high) m && eq_by_cmp key_cmp k x) || b) (group_between low high m k ks rest)
    ∙ more (range_contains moment_cmp (Excluded low) (Included high) m) (eq_by_cmp key_cmp k x) (list_any (eq_by_cmp key_cmp k) ks) (list_any (between low high k) rest)
  where
    more : (b h a r : Bool) → ((b && h) || ((b && a) || r)) ≡ ((b && (h || a)) || r)
    more true true a r = refl
    more true false a r = refl
    more false h a r = refl

-- the keys of the groups in a range
pub groups-between : (low high : Moment) (k : EntityKey) (es : List (Moment × BTreeSet EntityKey)) → in_groups k (entries_between moment_cmp (Excluded low) (Included high) es) ≡ list_any (between low high k) (stamps_of es)
groups-between low high k [] = refl
groups-between low high k (e ∷ es) =
    each (range_contains moment_cmp (Excluded low) (Included high) e.0) (entries_between moment_cmp (Excluded low) (Included high) es) (list_any (between low high k) (stamps_of es)) (groups-between low high k es) ∙ sym (group_between low high e.0 k e.1.keys (stamps_of es))
  where
    each : (b : Bool) (fs : List (Moment × BTreeSet EntityKey)) (r : Bool) → in_groups k fs ≡ r → in_groups k (cond b (e ∷ fs) fs) ≡ ((b && contains key_cmp e.1 k) || r)
    each true fs r h = ap (λ r. contains key_cmp e.1 k || r) h
    each false fs r h = h

itself : (s : Stamp) → same_stamp s s ≡ true
itself s = sym (same-stamp s s) ∙ ap (λ x. x && eq_by_cmp key_cmp s.key s.key) ((eq_by_cmp_equiv moments_total).refl s.at) ∙ (eq_by_cmp_equiv keys_total).refl s.key

-- ---- timestamps are of 64 bits
same-small : (one s : Stamp) → one.at.stamp < 2 ^ 64 → same_stamp one s ≡ true → s.at.stamp < 2 ^ 64
same-small one s l h = parts (one.at.feed == s.at.feed) (one.at.stamp == s.at.stamp) (same_key one.key s.key) refl h
  where
    parts : (a b c : Bool) → (one.at.stamp == s.at.stamp) ≡ b → ((a && b) && c) ≡ true → s.at.stamp < 2 ^ 64
    parts true true c e h = grind (arith, nat_tests)
    parts true false c e h = cc
    parts false b c e h = cc

-- also after one more was put in
pub small_put : (one s : Stamp) (old new : Bool) → one.at.stamp < 2 ^ 64 → (old ≡ true → s.at.stamp < 2 ^ 64) → new ≡ (same_stamp one s || old) → new ≡ true → s.at.stamp < 2 ^ 64
small_put one s old new l small n h = each (same_stamp one s) refl (sym n ∙ h)
  where
    each : (b : Bool) → same_stamp one s ≡ b → (b || old) ≡ true → s.at.stamp < 2 ^ 64
    each true e h = same-small one s l e
    each false e h = small h

-- and after one was taken out
pub small_taken : (one s : Stamp) (old new : Bool) → (old ≡ true → s.at.stamp < 2 ^ 64) → new ≡ (not (same_stamp one s) && old) → new ≡ true → s.at.stamp < 2 ^ 64
small_taken one s old new small n h = each (same_stamp one s) (sym n ∙ h)
  where
    each : (b : Bool) → (not b && old) ≡ true → s.at.stamp < 2 ^ 64
    each true h = cc
    each false h = small h

small_first : (x : Stamp) (xs : List Stamp) → AreSmall (x ∷ xs) → x.at.stamp < 2 ^ 64
small_first x xs small = small x (ap (λ b. b || holds xs x) (itself x))

small_more : (x : Stamp) (xs : List Stamp) → AreSmall (x ∷ xs) → AreSmall xs
small_more x xs small s h = small s (ap (λ b. same_stamp s x || b) h ∙ or-true (same_stamp s x))

-- above a bound, in order and by number
after-bound : (f g n m : ℕ) → m < 2 ^ 64 → (is_lt (ordering_then (nat_cmp f g) (nat_cmp n m)) && not (is_lt (ordering_then (nat_cmp f g) (nat_cmp 18446744073709551615 m)))) ≡ ((g == f) && nat_lt n m)
after-bound f g n m h = grind (arith, nat_tests)

abbrev pub far : ℕ → ℕ → Moment
far feed stamp = record { feed = feed; stamp = stamp }

pub between-above : (feed bound : ℕ) (k : EntityKey) (xs : List Stamp) → AreSmall xs
    → list_any (between (far feed bound) (far feed 18446744073709551615) k) xs ≡ list_any (λ s. is_above feed bound s && same_key k s.key) xs
between-above feed bound k [] small = refl
between-above feed bound k (x ∷ xs) small =
    ap (λ b. (b && eq_by_cmp key_cmp k x.key) || list_any (between (far feed bound) (far feed 18446744073709551615) k) xs) (after-bound feed x.at.feed bound x.at.stamp (small_first x xs small))
    ∙ ap (λ b. (is_above feed bound x && b) || list_any (between (far feed bound) (far feed 18446744073709551615) k) xs) (same-key k x.key)
    ∙ ap (λ b. (is_above feed bound x && same_key k x.key) || b) (between-above feed bound k xs (small_more x xs small))

not-below : (bound m : ℕ) → m < 2 ^ 64 → 2 ^ 64 ≤ bound → nat_lt bound m ≡ false
not-below bound m h l = grind (arith, nat_tests)

and-none : (a b : Bool) → ((a && false) && b) ≡ false
and-none true b = refl
and-none false b = refl

-- nothing is above what 64 bits don't hold
pub none-above : (feed bound : ℕ) (k : EntityKey) (xs : List Stamp) → AreSmall xs → 2 ^ 64 ≤ bound → list_any (λ s. is_above feed bound s && same_key k s.key) xs ≡ false
none-above feed bound k [] small l = refl
none-above feed bound k (x ∷ xs) small l =
    ap (λ b. ((x.at.feed == feed && b) && same_key k x.key) || list_any (λ s. is_above feed bound s && same_key k s.key) xs) (not-below bound x.at.stamp (small_first x xs small) l)
    ∙ ap (λ b. b || list_any (λ s. is_above feed bound s && same_key k s.key) xs) (and-none (x.at.feed == feed) (same_key k x.key)) ∙ none-above feed bound k xs (small_more x xs small) l
