-- No entity of a snapshot is lost.
use Rattle.std.specs.Prelude.{◌≡◌, ℕ, suc, ◌+◌, ◌<◌, ◌≤◌, true, false, cond, List, [], ◌∷◌, ◌++◌, length, Some, option_map, refl}
use Rattle.std.specs.List.{find}
use Rattle.std.proofs.Common.{sym, ◌∙◌, ap, arith, append_assoc, append-nil}
use Rattle.std.proofs.lemmas.Slice.Eq.{bytes_eq-Decides}
use Rattle.std.specs.Ordering.{match_ordering}
use Rattle.std.specs.declared.cmp.Ordering.TheVariants as order
use Rattle.std.specs.BTreeMap.{insert_entry}
use Rattle.feed_values.specs.Snapshot.{entity_payloads}
use Rattle.rule_table.specs.declared.key.EntityKey.{EntityKey}
use Rattle.rule_table.specs.Order.{key_cmp, same_key}
use Rattle.rule_table.specs.Groups.{Each}
use Rattle.rule_table.specs.GroupLaws.{each_weaken}
use Rattle.rule_history.specs.History.{Snapshot, Keyed, id_of, count_id, keyed_after, ordered_after, entities_in, entities_of_snapshot, entities, now}
use Rattle.rule_history.specs.Answered.{payload_under}
use Rattle.engine_laws.specs.HeldFeeds.{AreApart}
use Rattle.engine_laws.proofs.Longer.{now-feed}
use Rattle.engine_laws.proofs.Sorted.{each_insert, key_cmp_self, cmp_equal}
use Rattle.engine_laws.proofs.Spots.{is_false, key_is, key_self, key_other}
use Rattle.engine_laws.specs.Seats.{LosesNone}

-- ---- keys that compare alike
key_flip : (k l : EntityKey) → same_key k l ≡ false → same_key l k ≡ false
key_flip k l h = is_false (same_key l k) (λ e. key_other k l h (sym (key_is l k e)))

-- ---- one entry more
abbrev Absent : EntityKey → List Keyed → Type 0
Absent k es = Each (λ e. same_key e.0 k ≡ false) es

found_first : (e : Keyed) (es : List Keyed) (k : EntityKey) → e.0 ≡ k → payload_under k (e ∷ es) ≡ Some e.1
found_first e es k q = ap (λ b. option_map (λ (x : Keyed). x.1) (cond b (Some e) (find (λ x. same_key x.0 k) es))) (ap (λ z. same_key z k) q ∙ key_self k)

found_later : (e : Keyed) (es : List Keyed) (k : EntityKey) → same_key e.0 k ≡ false → payload_under k (e ∷ es) ≡ payload_under k es
found_later e es k q = ap (λ b. option_map (λ (x : Keyed). x.1) (cond b (Some e) (find (λ x. same_key x.0 k) es))) q

inserted : (es : List Keyed) (k : EntityKey) (v : List ℕ) → payload_under k (insert_entry key_cmp es k v) ≡ Some v
inserted [] k v = found_first (k, v) [] k refl
inserted (e ∷ es) k v =
    elim (key_cmp k e.0) as (λ o. key_cmp k e.0 ≡ o → payload_under k (match_ordering o ((k, v) ∷ e ∷ es) ((e.0, v) ∷ es) (e ∷ insert_entry key_cmp es k v)) ≡ Some v) [
      | order.Less ↦ λ _. found_first (k, v) (e ∷ es) k refl
      | order.Equal ↦ λ q. found_first (e.0, v) es k (sym (cmp_equal k e.0 q))
      | order.Greater ↦ λ q. found_later e (insert_entry key_cmp es k v) k (is_false (same_key e.0 k) (λ m. above q m)) ∙ inserted es k v
    ] refl
  where
    above : key_cmp k e.0 ≡ order.Greater → same_key e.0 k ≡ true → ⊥
    above q m = let o : key_cmp k e.0 ≡ order.Equal = ap (key_cmp k) (key_is e.0 k m) ∙ key_cmp_self k in cc (q, o)

beside : (es : List Keyed) (k l : EntityKey) (v : List ℕ) → same_key k l ≡ false → payload_under l (insert_entry key_cmp es k v) ≡ payload_under l es
beside [] k l v n = found_later (k, v) [] l n
beside (e ∷ es) k l v n =
    elim (key_cmp k e.0) as (λ o. key_cmp k e.0 ≡ o → payload_under l (match_ordering o ((k, v) ∷ e ∷ es) ((e.0, v) ∷ es) (e ∷ insert_entry key_cmp es k v)) ≡ payload_under l (e ∷ es)) [
      | order.Less ↦ λ _. found_later (k, v) (e ∷ es) l n
      | order.Equal ↦ λ q. let m : same_key e.0 l ≡ false = ap (λ z. same_key z l) (sym (cmp_equal k e.0 q)) ∙ n in found_later (e.0, v) es l m ∙ sym (found_later e es l m)
      | order.Greater ↦ λ _.
          elim (same_key e.0 l) as (λ b. same_key e.0 l ≡ b → payload_under l (e ∷ insert_entry key_cmp es k v) ≡ payload_under l (e ∷ es)) [
            | true ↦ λ m. found_first e (insert_entry key_cmp es k v) l (key_is e.0 l m) ∙ sym (found_first e es l (key_is e.0 l m))
            | false ↦ λ m. found_later e (insert_entry key_cmp es k v) l m ∙ beside es k l v n ∙ sym (found_later e es l m)
          ] refl
    ] refl

longer : (es : List Keyed) (k : EntityKey) (v : List ℕ) → Absent k es → length (insert_entry key_cmp es k v) ≡ length es + 1
longer [] k v h = refl
longer (e ∷ es) k v h =
    elim (key_cmp k e.0) as (λ o. key_cmp k e.0 ≡ o → length (match_ordering o ((k, v) ∷ e ∷ es) ((e.0, v) ∷ es) (e ∷ insert_entry key_cmp es k v)) ≡ length (e ∷ es) + 1) [
      | order.Less ↦ λ _. one (length es)
      | order.Equal ↦ λ q. absurd (key_other e.0 k h.0 (sym (cmp_equal k e.0 q)))
      | order.Greater ↦ λ _. next (length (insert_entry key_cmp es k v)) (length es) (longer es k v h.1)
    ] refl
  where
    one : (n : ℕ) → suc (suc n) ≡ suc n + 1
    one n = omega arith

    next : (m n : ℕ) → m ≡ n + 1 → suc m ≡ suc n + 1
    next m n e = omega arith

-- ---- entries one by one
stays : (l : EntityKey) (done es : List Keyed) → Absent l es → payload_under l (ordered_after done es) ≡ payload_under l done
stays l done [] h = refl
stays l done (e ∷ es) h = stays l (insert_entry key_cmp done e.0 e.1) es h.1 ∙ beside done e.0 l e.1 h.0

arrives : (done xs ys : List Keyed) (k : EntityKey) (v : List ℕ) → Absent k ys → payload_under k (ordered_after done (xs ++ (k, v) ∷ ys)) ≡ Some v
arrives done [] ys k v h = stays k (insert_entry key_cmp done k v) ys h ∙ inserted done k v
arrives done (x ∷ xs) ys k v h = arrives (insert_entry key_cmp done x.0 x.1) xs ys k v h

length-ordered : (done es : List Keyed) → Each (λ e. Absent e.0 done) es → AreApart es → length (ordered_after done es) ≡ length done + length es
length-ordered done [] h a = none (length done)
  where
    none : (n : ℕ) → n ≡ n + 0
    none n = omega arith
length-ordered done (e ∷ es) h a =
    length-ordered (insert_entry key_cmp done e.0 e.1) es (still es h.1 a.0) a.1
    ∙ ap (λ n. n + length es) (longer done e.0 e.1 h.0) ∙ over (length done) (length es)
  where
    over : (m n : ℕ) → (m + 1) + n ≡ m + suc n
    over m n = omega arith

    still : (ds : List Keyed) → Each (λ d. Absent d.0 done) ds → Each (λ d. same_key e.0 d.0 ≡ false) ds → Each (λ d. Absent d.0 (insert_entry key_cmp done e.0 e.1)) ds
    still [] p q = tt
    still (d ∷ ds) p q = (each_insert (λ l. same_key l d.0 ≡ false) done e.0 e.1 q.0 p.0, still ds p.1 q.1)

-- ---- occurrences
count_more : (xs : List (List ℕ)) (p id : List ℕ) → count_id xs id ≤ count_id (xs ++ p ∷ []) id
count_more [] p id = omega arith
count_more (x ∷ xs) p id = let m = count_more xs p id in omega (arith, m)

count_self : (xs : List (List ℕ)) (p : List ℕ) → count_id (xs ++ p ∷ []) (id_of p) ≡ count_id xs (id_of p) + 1
count_self [] p = ap (λ b. cond b 1 0 + 0) ((bytes_eq-Decides (id_of p) (id_of p)).1 refl)
count_self (x ∷ xs) p = let m = count_self xs p in omega (arith, m)

later_keys : (f : ℕ) (done ps : List (List ℕ)) (id : List ℕ) (n : ℕ) → n < count_id done id → Absent (record { feed = f; id = id; occurrence = n }) (keyed_after f done ps)
later_keys f done [] id n l = tt
later_keys f done (p ∷ ps) id n l = (
  is_false (same_key here (record { feed = f; id = id; occurrence = n })) (λ e. clash (key_is here (record { feed = f; id = id; occurrence = n }) e)),
  later_keys f (done ++ p ∷ []) ps id n (up n (count_id done id) (count_id (done ++ p ∷ []) id) (count_more done p id) l),
)
  where
    here : EntityKey
    here = record { feed = f; id = id_of p; occurrence = count_id done (id_of p) }

    up : (a b c : ℕ) → b ≤ c → a < b → a < c
    up a b c h k = omega arith

    clash : here ≡ record { feed = f; id = id; occurrence = n } → ⊥
    clash e =
        let count : count_id done id ≡ n = ap (count_id done) (sym (ap (λ (x : EntityKey). x.id) e)) ∙ ap (λ (x : EntityKey). x.occurrence) e in
        absurd (omega (arith, count, l))

keyed_apart : (f : ℕ) (done ps : List (List ℕ)) → AreApart (keyed_after f done ps)
keyed_apart f done [] = tt
keyed_apart f done (p ∷ ps) = (
  each_weaken (λ e. same_key e.0 here ≡ false) (λ e. same_key here e.0 ≡ false) (λ e n. key_flip e.0 here n) (keyed_after f (done ++ p ∷ []) ps)
      (later_keys f (done ++ p ∷ []) ps (id_of p) (count_id done (id_of p)) (more (count_id done (id_of p)) (count_id (done ++ p ∷ []) (id_of p)) (count_self done p))),
  keyed_apart f (done ++ p ∷ []) ps,
)
  where
    here : EntityKey
    here = record { feed = f; id = id_of p; occurrence = count_id done (id_of p) }

    more : (a b : ℕ) → b ≡ a + 1 → a < b
    more a b e = omega arith

length-keyed : (f : ℕ) (done ps : List (List ℕ)) → length (keyed_after f done ps) ≡ length ps
length-keyed f done [] = refl
length-keyed f done (p ∷ ps) = ap suc (length-keyed f (done ++ p ∷ []) ps)

keyed-split : (f : ℕ) (done xs : List (List ℕ)) (p : List ℕ) (ys : List (List ℕ)) →
    keyed_after f done (xs ++ p ∷ ys) ≡ keyed_after f done xs ++ (record { feed = f; id = id_of p; occurrence = count_id (done ++ xs) (id_of p) }, p) ∷ keyed_after f ((done ++ xs) ++ p ∷ []) ys
keyed-split f done [] p ys = ap (λ zs. keyed_after f zs (p ∷ ys)) (sym (append-nil done))
keyed-split f done (x ∷ xs) p ys =
    ap (λ es. (let k : EntityKey = record { feed = f; id = id_of x; occurrence = count_id done (id_of x) } in (k, x)) ∷ es)
    (keyed-split f (done ++ x ∷ []) xs p ys
    ∙ ap (λ zs. keyed_after f (done ++ x ∷ []) xs ++ (let k : EntityKey = record { feed = f; id = id_of p; occurrence = count_id zs (id_of p) } in (k, p)) ∷ keyed_after f (zs ++ p ∷ []) ys) (append_assoc done (x ∷ []) xs))

-- ---- a snapshot of a feed
each_there : (f : ℕ) (bytes : List ℕ) (xs ys : List (List ℕ)) (p : List ℕ) → entity_payloads bytes ≡ xs ++ p ∷ ys →
    payload_under (record { feed = f; id = id_of p; occurrence = count_id xs (id_of p) }) (entities_in f bytes) ≡ Some p
each_there f bytes xs ys p e =
    ap (λ es. payload_under here (ordered_after [] es)) (ap (keyed_after f []) e ∙ keyed-split f [] xs p ys)
    ∙ arrives [] (keyed_after f [] xs) (keyed_after f (xs ++ p ∷ []) ys) here p (later_keys f (xs ++ p ∷ []) ys (id_of p) (count_id xs (id_of p)) (more (count_id xs (id_of p)) (count_id (xs ++ p ∷ []) (id_of p)) (count_self xs p)))
  where
    here : EntityKey
    here = record { feed = f; id = id_of p; occurrence = count_id xs (id_of p) }

    more : (a b : ℕ) → b ≡ a + 1 → a < b
    more a b e = omega arith

as_many_in : (f : ℕ) (bytes : List ℕ) → length (entities_in f bytes) ≡ length (entity_payloads bytes)
as_many_in f bytes =
    length-ordered [] (keyed_after f [] (entity_payloads bytes)) (all_absent (keyed_after f [] (entity_payloads bytes))) (keyed_apart f [] (entity_payloads bytes))
    ∙ zero_left (length (keyed_after f [] (entity_payloads bytes))) ∙ length-keyed f [] (entity_payloads bytes)
  where
    zero_left : (n : ℕ) → 0 + n ≡ n
    zero_left n = omega arith

    all_absent : (es : List Keyed) → Each (λ e. Absent e.0 []) es
    all_absent [] = tt
    all_absent (e ∷ es) = (tt, all_absent es)

pub none_is_lost : (h : List Snapshot) (f : ℕ) (s : Snapshot) → now h f ≡ Some s → LosesNone h s
none_is_lost h f s is = record {
  as_many = ap length there ∙ as_many_in s.feed s.bytes;
  each = λ xs ys p e. ap (payload_under _) there ∙ each_there s.feed s.bytes xs ys p e;
}
  where
    there : entities h s.feed ≡ entities_in s.feed s.bytes
    there = ap (entities h) (now-feed h f s is) ∙ ap entities_of_snapshot is
