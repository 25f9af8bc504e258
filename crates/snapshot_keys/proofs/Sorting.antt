-- What a stable sort by the ids makes of the entities of a snapshot.
use Rattle.std.specs.Prelude.{◌≡◌, ◌<◌, ◌≤◌, ◌+◌, ℕ, suc, not, ◌&&◌, Bool, true, false, List, [], ◌∷◌, None, length, map, filter, slice_index_or, cond, bytes_eq, refl}
use Rattle.std.specs.List.{All}
use Rattle.std.specs.List.Sorted.{IsPermutation, IsSortedByKey, IsStableByKey, ties}
use Rattle.std.specs.Ordering.{nat_cmp, is_lt, is_eq, ordering_reverse}
use Rattle.std.specs.declared.cmp.Ordering.{Ordering}
use Rattle.std.specs.declared.cmp.Ordering.TheVariants as order
use Rattle.std.specs.Cmp.Lexicographic.{slice_cmp, nat_list_cmp_total}
use Rattle.std.proofs.Common.{sym, ap, ◌∙◌, arith, subst}
use Rattle.std.proofs.lemmas.List.Elements.{All-head, All-tail}
use Rattle.std.proofs.lemmas.List.Sorted.{All-permutation, ranks_by, sorted_far}
use Rattle.std.proofs.lemmas.Map.Text.{is_eq-slice_cmp}
use Rattle.rule_table.specs.Groups.{Each}
use Rattle.rule_table.proofs.SameTests.{text-symm}
use Rattle.feed_values.specs.Snapshot.{entities_of}
use Rattle.judging.specs.Seats.{id_of, seats}
use Rattle.snapshot_keys.specs.declared.placing.NamedEntity.{NamedEntity}
use Rattle.snapshot_keys.specs.Places.{AreWithin, entity_at, placed}
use Rattle.snapshot_keys.specs.ById.{AreById, AreNamed, IsNamed, entities_at, has_id}
use Rattle.snapshot_keys.proofs.Lookups.{same_seats}
use Rattle.snapshot_keys.proofs.Walked.{Ascend, Counted, NoneBelow, ids_of, seats_rise, walk, walk_seats, walk_within}

-- a named entity is what it needs to be asked about an id
abbrev asked : List ℕ → NamedEntity
asked id = record { id = record { ref_ptr = (0, 0); now = id }; number = 0 }

abbrev key : NamedEntity → List ℕ
key n = n.id.now

ties_are : (a b : List ℕ) → (not (is_lt (slice_cmp nat_cmp a b)) && not (is_lt (slice_cmp nat_cmp b a))) ≡ bytes_eq b a
ties_are a b =
    ap (λ o. not (is_lt (slice_cmp nat_cmp a b)) && not (is_lt o)) (nat_list_cmp_total.antisymm b a) ∙ either (slice_cmp nat_cmp a b) ∙ is_eq-slice_cmp a b ∙ text-symm a b
  where
    either : (o : Ordering) → (not (is_lt o) && not (is_lt (ordering_reverse o))) ≡ is_eq o
    either order.Less = refl
    either order.Equal = refl
    either order.Greater = refl

-- those with an id
filtered : (bytes id : List ℕ) (ns : List NamedEntity) → All (IsNamed bytes) ns → filter (has_id id) (entities_at bytes ns) ≡ entities_at bytes (filter (ties (λ x y. is_lt (slice_cmp nat_cmp (key x) (key y))) (asked id)) ns)
filtered bytes id [] named = refl
filtered bytes id (n ∷ ns) named =
    ap (λ b. cond b (entity_at bytes n.number ∷ filter (has_id id) (entities_at bytes ns)) (filter (has_id id) (entities_at bytes ns)))
    (ap (λ x. bytes_eq x id) (sym (All-head (IsNamed bytes) n ns named).id) ∙ sym (ties_are id (key n)))
    ∙ either (ties (λ x y. is_lt (slice_cmp nat_cmp (key x) (key y))) (asked id) n) (filtered bytes id ns (All-tail (IsNamed bytes) n ns named))
  where
    kept : List NamedEntity
    kept = filter (ties (λ x y. is_lt (slice_cmp nat_cmp (key x) (key y))) (asked id)) ns

    either : (b : Bool) → filter (has_id id) (entities_at bytes ns) ≡ entities_at bytes kept
        → cond b (entity_at bytes n.number ∷ filter (has_id id) (entities_at bytes ns)) (filter (has_id id) (entities_at bytes ns)) ≡ entities_at bytes (cond b (n ∷ kept) kept)
    either true h = ap (λ es. entity_at bytes n.number ∷ es) h
    either false h = h

pub sorted_by_id : (bytes : List ℕ) (old new : List NamedEntity) → AreNamed bytes old → IsPermutation old new → IsSortedByKey key (slice_cmp nat_cmp) new → IsStableByKey key (slice_cmp nat_cmp) old new → AreById bytes new
sorted_by_id bytes old new are moved up stable = record {
  named = named;
  ascend = up;
  of_id = λ id. filtered bytes id new named ∙ ap (entities_at bytes) (stable (asked id)) ∙ sym (filtered bytes id old are.named) ∙ ap (filter (has_id id)) are.are;
}
  where
    named : All (IsNamed bytes) new
    named = All-permutation (IsNamed bytes) old new moved are.named

-- ---- the same by recursion
pub each_of : {A : Type 0} (P : A → Type 0) (xs : List A) → All P xs → Each P xs
each_of P [] h = tt
each_of P (x ∷ xs) h = (All-head P x xs h, each_of P xs (All-tail P x xs h))

pub ascend_of : (ns : List NamedEntity) → IsSortedByKey key (slice_cmp nat_cmp) ns → Ascend (ids_of ns)
ascend_of ns up = go ns (sorted_far (λ x y. is_lt (slice_cmp nat_cmp (key x) (key y))) (ranks_by nat_list_cmp_total key) ns up)
  where
    first : (n : NamedEntity) (ms : List NamedEntity) → ((j : ℕ) (d : NamedEntity) → j < length ms → is_lt (slice_cmp nat_cmp (key (slice_index_or ms j d)) (key n)) ≡ false) → NoneBelow (key n) (ids_of ms)
    first n [] h = tt
    first n (m ∷ ms) h = (h 0 m (omega arith), first n ms (λ j d l. h (suc j) d (later j (length ms) l)))
      where
        later : (j k : ℕ) → j < k → suc j < suc k
        later j k l = omega (arith, l)

    go : (ms : List NamedEntity) → ((i j : ℕ) (d : NamedEntity) → i ≤ j → j < length ms → is_lt (slice_cmp nat_cmp (key (slice_index_or ms j d)) (key (slice_index_or ms i d))) ≡ false) → Ascend (ids_of ms)
    go [] h = tt
    go (m ∷ ms) h = (first m ms (λ j d l. h 0 (suc j) d (omega arith) (later j (length ms) l)), go ms (λ i j d le l. h (suc i) (suc j) d (both i j le) (later j (length ms) l)))
      where
        later : (j k : ℕ) → j < k → suc j < suc k
        later j k l = omega (arith, l)

        both : (i j : ℕ) → i ≤ j → suc i ≤ suc j
        both i j l = omega (arith, l)

-- entities have the ids that they are named by
pub ids_named : (bytes : List ℕ) (ns : List NamedEntity) → Each (IsNamed bytes) ns → ids_of ns ≡ map id_of (entities_at bytes ns)
ids_named bytes [] named = refl
ids_named bytes (n ∷ ns) named = ap (λ id. id ∷ ids_of ns) named.0.id ∙ ap (λ ids. id_of (entity_at bytes n.number) ∷ ids) (ids_named bytes ns named.1)

-- ---- all of a snapshot
pub seated : (bytes : List ℕ) (f : ℕ) (ns : List NamedEntity) → AreById bytes ns → placed bytes (walk f None ns) ≡ seats f (entities_of bytes)
seated bytes f ns are =
    walk_seats bytes f [] None ns named up tt (none ns) ∙ same_seats f (entities_of bytes) (entities_at bytes ns) are.of_id (seats_rise f [] (entities_at bytes ns) (subst Ascend (ids_named bytes ns named) up))
  where
    named : Each (IsNamed bytes) ns
    named = each_of (IsNamed bytes) ns are.named

    up : Ascend (ids_of ns)
    up = ascend_of ns are.ascend

    none : (ms : List NamedEntity) → Counted f [] None ms
    none [] = tt
    none (m ∷ ms) = (refl, none ms)

pub all_within : (bytes : List ℕ) (f : ℕ) (ns : List NamedEntity) → AreById bytes ns → AreWithin bytes (walk f None ns)
all_within bytes f ns are = walk_within bytes f None ns (each_of (IsNamed bytes) ns are.named)
