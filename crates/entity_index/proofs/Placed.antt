-- The keys of a snapshot's entities with their places.
use Rattle.std.specs.Prelude.{◌≡◌, ℕ, zero, suc, ◌+◌, ◌-◌, ◌<◌, ◌≤◌, Bool, true, false, cond, List, [], ◌∷◌, ◌++◌, map, filter, take, length, get_or, Some, bytes_eq, refl}
use Rattle.std.specs.Cmp.Lexicographic.{pointwise}
use Rattle.std.proofs.Common.{◌∙◌, ap, sym, arith, append_assoc, append-nil}
use Rattle.std.proofs.lemmas.List.{map-append}
use Rattle.std.proofs.lemmas.Slice.Eq.{bytes_eq-Decides}
use Rattle.std.proofs.lemmas.Bool.{and_parts}
use Rattle.rule_table.specs.declared.key.EntityKey.{EntityKey}
use Rattle.rule_table.specs.Groups.{Each}
use Rattle.rule_table.specs.Order.{same_key}
use Rattle.rule_history.specs.History.{Keyed, id_of, count_id, keyed_after}
use Rattle.engine_laws.specs.HeldFeeds.{AreApart}
use Rattle.engine_laws.specs.Delta.{is_other}
use Rattle.engine_laws.proofs.Spots.{is_false, key_is, key_self}
use Rattle.entity_index.specs.Held.{at_key}
use Rattle.entity_index.specs.Seats.{key_after, placed_after, occurrences_after}
use Rattle.entity_index.specs.Changes.{fresh_from}
use Rattle.entity_index.proofs.AtKey.{at_first, at_later, other_at}

-- ---- each key stands once
count_more : (ps : List (List ℕ)) (p id : List ℕ) → count_id ps id ≤ count_id (ps ++ p ∷ []) id
count_more [] p id = omega arith
count_more (q ∷ ps) p id = let m = count_more ps p id in omega (arith, m)

count_self : (ps : List (List ℕ)) (p : List ℕ) → count_id (ps ++ p ∷ []) (id_of p) ≡ count_id ps (id_of p) + 1
count_self [] p = ap (λ b. cond b 1 0 + 0) ((bytes_eq-Decides (id_of p) (id_of p)).1 refl)
count_self (q ∷ ps) p = let m = count_self ps p in omega (arith, m)

-- an occurrence that was counted comes no more
comes_no_more : (f : ℕ) (k : EntityKey) (done : List (List ℕ)) (i : ℕ) (ps : List (List ℕ)) → k.occurrence < count_id done k.id → Each (λ e. same_key k e.0 ≡ false) (placed_after f done i ps)
comes_no_more f k done i [] l = tt
comes_no_more f k done i (p ∷ ps) l = (
  is_false (same_key k (key_after f done p)) (λ e. clash (key_is k (key_after f done p) e)),
  comes_no_more f k (done ++ p ∷ []) (i + 1) ps (up k.occurrence (count_id done k.id) (count_id (done ++ p ∷ []) k.id) (count_more done p k.id) l),
)
  where
    up : (a b c : ℕ) → b ≤ c → a < b → a < c
    up a b c h m = omega arith

    clash : k ≡ key_after f done p → ⊥
    clash e =
        let n : k.occurrence ≡ count_id done k.id = ap (λ (x : EntityKey). x.occurrence) e ∙ ap (count_id done) (sym (ap (λ (x : EntityKey). x.id) e)) in
        absurd (omega (arith, n, l))

pub placed_apart : (f : ℕ) (done : List (List ℕ)) (i : ℕ) (ps : List (List ℕ)) → AreApart (placed_after f done i ps)
placed_apart f done i [] = tt
placed_apart f done i (p ∷ ps) = (
  comes_no_more f (key_after f done p) (done ++ p ∷ []) (i + 1) ps (more (count_id done (id_of p)) (count_id (done ++ p ∷ []) (id_of p)) (count_self done p)),
  placed_apart f (done ++ p ∷ []) (i + 1) ps,
)
  where
    more : (a b : ℕ) → b ≡ a + 1 → a < b
    more a b e = omega arith

pub placed-keys : (f : ℕ) (done : List (List ℕ)) (i : ℕ) (ps : List (List ℕ)) → map (λ e. e.0) (placed_after f done i ps) ≡ map (λ e. e.0) (keyed_after f done ps)
placed-keys f done i [] = refl
placed-keys f done i (p ∷ ps) = ap (λ ks. key_after f done p ∷ ks) (placed-keys f (done ++ p ∷ []) (i + 1) ps)

-- the byte strings are those at the places
pub keyed-placed : (f : ℕ) (done ps : List (List ℕ)) (i : ℕ) (all : List (List ℕ)) → ((j : ℕ) → get_or ps j [] ≡ get_or all (j + i) []) →
    keyed_after f done ps ≡ map {B = EntityKey × List ℕ} (λ e. (e.0, get_or all e.1 [])) (placed_after f done i ps)
keyed-placed f done [] i all h = refl
keyed-placed f done (p ∷ ps) i all h =
    ap (λ x. (let e : Keyed = (key_after f done p, x) in e) ∷ keyed_after f (done ++ p ∷ []) ps) (h 0 ∙ ap (λ j. get_or all j []) (zero_left i))
    ∙ ap (λ xs. (let e : Keyed = (key_after f done p, get_or all i []) in e) ∷ xs) (keyed-placed f (done ++ p ∷ []) ps (i + 1) all (λ j. h (suc j) ∙ ap (λ n. get_or all n []) (moved j i)))
  where
    zero_left : (i : ℕ) → 0 + i ≡ i
    zero_left i = omega arith

    moved : (j i : ℕ) → suc j + i ≡ j + (i + 1)
    moved j i = omega arith

-- ---- a key by its place
pub record IsPlace (f : ℕ) (done : List (List ℕ)) (i : ℕ) (ps : List (List ℕ)) (k : EntityKey) (j : ℕ) : Type 0 where
  pub within : j < i + length ps
  pub above : i ≤ j
  pub key : k ≡ key_after f (done ++ take (j - i) ps) (get_or ps (j - i) [])

here_place : (f : ℕ) (done : List (List ℕ)) (i : ℕ) (p : List ℕ) (ps : List (List ℕ)) (k : EntityKey) (j : ℕ) → i ≡ j → key_after f done p ≡ k → IsPlace f done i (p ∷ ps) k j
here_place f done i p ps k j e q =
    let none : j - i ≡ 0 = omega arith in
    record {
      within = omega arith;
      above = omega arith;
      key = sym q ∙ ap (λ d. key_after f d p) (sym (append-nil done)) ∙ ap (λ n. key_after f (done ++ take n (p ∷ ps)) (get_or (p ∷ ps) n [])) (sym none);
    }

later_place : (f : ℕ) (done : List (List ℕ)) (i : ℕ) (p : List ℕ) (ps : List (List ℕ)) (k : EntityKey) (j : ℕ) → IsPlace f (done ++ p ∷ []) (i + 1) ps k j → IsPlace f done i (p ∷ ps) k j
later_place f done i p ps k j r =
    let up : j - i ≡ suc (j - (i + 1)) = omega (arith, r.above) in
    record {
      within = omega (arith, r.within);
      above = omega (arith, r.above);
      key = r.key ∙ ap (λ d. key_after f d (get_or ps (j - (i + 1)) [])) (append_assoc done (p ∷ []) (take (j - (i + 1)) ps)) ∙ ap (λ n. key_after f (done ++ take n (p ∷ ps)) (get_or (p ∷ ps) n [])) (sym up);
    }

pub place_of : (f : ℕ) (done : List (List ℕ)) (i : ℕ) (ps : List (List ℕ)) (k : EntityKey) (j : ℕ) → at_key k (placed_after f done i ps) ≡ Some j → IsPlace f done i ps k j
place_of f done i [] k j h = cc
place_of f done i (p ∷ ps) k j h = either (same_key (key_after f done p) k) refl (place_of f (done ++ p ∷ []) (i + 1) ps k j)
  where
    inside : (a b : ℕ) → Some a ≡ Some b → a ≡ b
    inside a b s = cc

    either : (b : Bool) → same_key (key_after f done p) k ≡ b → (at_key k (placed_after f (done ++ p ∷ []) (i + 1) ps) ≡ Some j → IsPlace f (done ++ p ∷ []) (i + 1) ps k j) → IsPlace f done i (p ∷ ps) k j
    either true m rest = here_place f done i p ps k j (inside i j (sym (at_first (key_after f done p, i) (placed_after f (done ++ p ∷ []) (i + 1) ps) k m) ∙ h)) (key_is (key_after f done p) k m)
    either false m rest = later_place f done i p ps k j (rest (sym (at_later (key_after f done p, i) (placed_after f (done ++ p ∷ []) (i + 1) ps) k m) ∙ h))

-- ---- what is new or has other bytes
module _ (f : ℕ) (before : List Keyed) where
  -- there are as many keys as places
  pub length-fresh-keys : (i : ℕ) (es : List Keyed) → length (map (λ e. e.0) (filter (is_other before) es)) ≡ length (fresh_from before i es)
  length-fresh-keys i [] = refl
  length-fresh-keys i (e ∷ es) = either (is_other before e) (length-fresh-keys (i + 1) es)
    where
      either : (b : Bool) → length (map (λ (x : Keyed). x.0) (filter (is_other before) es)) ≡ length (fresh_from before (i + 1) es) →
          length (map (λ (x : Keyed). x.0) (cond b (e ∷ filter (is_other before) es) (filter (is_other before) es))) ≡ length (cond b (i ∷ fresh_from before (i + 1) es) (fresh_from before (i + 1) es))
      either true h = ap suc h
      either false h = h

  -- and each is that of its place
  pub fresh_place : (done : List (List ℕ)) (i : ℕ) (ps : List (List ℕ)) (j : ℕ) (d : EntityKey) → j < length (fresh_from before i (keyed_after f done ps)) →
      IsPlace f done i ps (get_or (map (λ e. e.0) (filter (is_other before) (keyed_after f done ps))) j d) (get_or (fresh_from before i (keyed_after f done ps)) j 0)
  fresh_place done i [] j d l = absurd (omega (arith, l))
  fresh_place done i (p ∷ ps) j d l = either (is_other before (key_after f done p, p)) j l (λ k m. later_place f done i p ps _ _ (fresh_place (done ++ p ∷ []) (i + 1) ps k d m))
    where
      either : (b : Bool) (k : ℕ) → k < length (cond b (i ∷ fresh_from before (i + 1) (keyed_after f (done ++ p ∷ []) ps)) (fresh_from before (i + 1) (keyed_after f (done ++ p ∷ []) ps))) →
          ((k : ℕ) → k < length (fresh_from before (i + 1) (keyed_after f (done ++ p ∷ []) ps)) →
          IsPlace f done i (p ∷ ps) (get_or (map (λ (e : Keyed). e.0) (filter (is_other before) (keyed_after f (done ++ p ∷ []) ps))) k d) (get_or (fresh_from before (i + 1) (keyed_after f (done ++ p ∷ []) ps)) k 0)) →
          IsPlace f done i (p ∷ ps) (get_or (map (λ (e : Keyed). e.0) (cond b ((key_after f done p, p) ∷ filter (is_other before) (keyed_after f (done ++ p ∷ []) ps)) (filter (is_other before) (keyed_after f (done ++ p ∷ []) ps)))) k d)
          (get_or (cond b (i ∷ fresh_from before (i + 1) (keyed_after f (done ++ p ∷ []) ps)) (fresh_from before (i + 1) (keyed_after f (done ++ p ∷ []) ps))) k 0)
      either true zero m rest = here_place f done i p ps (key_after f done p) i refl refl
      either true (suc k) m rest = rest k (omega (arith, m))
      either false k m rest = rest k m

-- two keys have one place only if they are one
pub one_place : (f : ℕ) (ps : List (List ℕ)) (k l : EntityKey) (i j : ℕ) → at_key k (placed_after f [] 0 ps) ≡ Some i → at_key l (placed_after f [] 0 ps) ≡ Some j → i ≡ j → k ≡ l
one_place f ps k l i j h m e =
    (place_of f [] 0 ps k i h).key ∙ ap (λ n. key_after f (take (n - 0) ps) (get_or ps (n - 0) [])) e ∙ sym (place_of f [] 0 ps l j m).key

-- each place has its key
pub there_at : (f : ℕ) (done : List (List ℕ)) (i : ℕ) (ps : List (List ℕ)) (j : ℕ) → j < length ps → at_key (key_after f (done ++ take j ps) (get_or ps j [])) (placed_after f done i ps) ≡ Some (j + i)
there_at f done i [] j l = absurd (omega (arith, l))
there_at f done i (p ∷ ps) zero l =
    ap (λ d. at_key (key_after f d p) (placed_after f done i (p ∷ ps))) (nil done)
    ∙ at_first (key_after f done p, i) (placed_after f (done ++ p ∷ []) (i + 1) ps) (key_after f done p) (key_self (key_after f done p)) ∙ ap (λ n. Some n) (zero_left i)
  where
    nil : (xs : List (List ℕ)) → xs ++ [] ≡ xs
    nil [] = refl
    nil (x ∷ xs) = ap (λ ys. x ∷ ys) (nil xs)

    zero_left : (i : ℕ) → i ≡ 0 + i
    zero_left i = omega arith
there_at f done i (p ∷ ps) (suc j) l = step (there_at f (done ++ p ∷ []) (i + 1) ps j (omega (arith, l)))
  where
    moved : (j i : ℕ) → j + (i + 1) ≡ suc j + i
    moved j i = omega arith

    step : at_key (key_after f ((done ++ p ∷ []) ++ take j ps) (get_or ps j [])) (placed_after f (done ++ p ∷ []) (i + 1) ps) ≡ Some (j + (i + 1)) →
        at_key (key_after f (done ++ take (suc j) (p ∷ ps)) (get_or (p ∷ ps) (suc j) [])) (placed_after f done i (p ∷ ps)) ≡ Some (suc j + i)
    step found =
        ap (λ d. at_key (key_after f d (get_or ps j [])) (placed_after f done i (p ∷ ps))) (sym (append_assoc done (p ∷ []) (take j ps)))
        ∙ at_later (key_after f done p, i) (placed_after f (done ++ p ∷ []) (i + 1) ps) (key_after f ((done ++ p ∷ []) ++ take j ps) (get_or ps j []))
        (other_at (key_after f done p) (key_after f ((done ++ p ∷ []) ++ take j ps) (get_or ps j [])) (placed_after f (done ++ p ∷ []) (i + 1) ps) (j + (i + 1)) (placed_apart f done i (p ∷ ps)).0 found)
        ∙ found ∙ ap (λ n. Some n) (moved j i)

-- ---- ids
pub ids_equal : (ps qs : List (List ℕ)) → pointwise bytes_eq (map id_of ps) (map id_of qs) ≡ true → map id_of ps ≡ map id_of qs
ids_equal [] [] h = refl
ids_equal [] (q ∷ qs) h = cc
ids_equal (p ∷ ps) [] h = cc
ids_equal (p ∷ ps) (q ∷ qs) h =
    let e = and_parts (bytes_eq (id_of p) (id_of q)) (pointwise bytes_eq (map id_of ps) (map id_of qs)) h in
    ap (λ x. x ∷ map id_of ps) ((bytes_eq-Decides (id_of p) (id_of q)).0 e.0) ∙ ap (λ xs. id_of q ∷ xs) (ids_equal ps qs e.1)

-- how many of some ids are an id
count_same : List (List ℕ) → List ℕ → ℕ
count_same [] id = 0
count_same (x ∷ xs) id = cond (bytes_eq x id) 1 0 + count_same xs id

by_ids : ℕ → List (List ℕ) → ℕ → List (List ℕ) → List (EntityKey × ℕ)
by_ids f done i [] = []
by_ids f done i (x ∷ xs) = (record { feed = f; id = x; occurrence = count_same done x }, i) ∷ by_ids f (done ++ x ∷ []) (i + 1) xs

counts_by_ids : List (List ℕ) → List (List ℕ) → List ℕ
counts_by_ids done [] = []
counts_by_ids done (x ∷ xs) = count_same done x ∷ counts_by_ids (done ++ x ∷ []) xs

count-ids : (ps : List (List ℕ)) (id : List ℕ) → count_id ps id ≡ count_same (map id_of ps) id
unfolding count_same
count-ids [] id = refl
count-ids (p ∷ ps) id = ap (λ n. cond (bytes_eq (id_of p) id) 1 0 + n) (count-ids ps id)

placed-ids : (f : ℕ) (done : List (List ℕ)) (i : ℕ) (ps : List (List ℕ)) → placed_after f done i ps ≡ by_ids f (map id_of done) i (map id_of ps)
unfolding by_ids
placed-ids f done i [] = refl
placed-ids f done i (p ∷ ps) =
    ap (λ n. (let k : EntityKey = record { feed = f; id = id_of p; occurrence = n } in (k, i)) ∷ placed_after f (done ++ p ∷ []) (i + 1) ps) (count-ids done (id_of p))
    ∙ ap (λ xs. (let k : EntityKey = record { feed = f; id = id_of p; occurrence = count_same (map id_of done) (id_of p) } in (k, i)) ∷ xs)
    (placed-ids f (done ++ p ∷ []) (i + 1) ps ∙ ap (λ d. by_ids f d (i + 1) (map id_of ps)) (map-append id_of done (p ∷ [])))

counts-ids : (done ps : List (List ℕ)) → occurrences_after done ps ≡ counts_by_ids (map id_of done) (map id_of ps)
unfolding counts_by_ids
counts-ids done [] = refl
counts-ids done (p ∷ ps) =
    ap (λ n. n ∷ occurrences_after (done ++ p ∷ []) ps) (count-ids done (id_of p))
    ∙ ap (λ xs. count_same (map id_of done) (id_of p) ∷ xs) (counts-ids (done ++ p ∷ []) ps ∙ ap (λ d. counts_by_ids d (map id_of ps)) (map-append id_of done (p ∷ [])))

-- where the ids are the same in the same order, so are the keys, their places and the occurrences
pub same_places : (f : ℕ) (ps qs : List (List ℕ)) → map id_of ps ≡ map id_of qs → placed_after f [] 0 ps ≡ placed_after f [] 0 qs
same_places f ps qs h = placed-ids f [] 0 ps ∙ ap (by_ids f [] 0) h ∙ sym (placed-ids f [] 0 qs)

pub same_occurrences : (ps qs : List (List ℕ)) → map id_of ps ≡ map id_of qs → occurrences_after [] ps ≡ occurrences_after [] qs
same_occurrences ps qs h = counts-ids [] ps ∙ ap (counts_by_ids []) h ∙ sym (counts-ids [] qs)
