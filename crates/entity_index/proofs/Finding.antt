-- What is new or has other bytes, and what is gone, place by place.
use Rattle.std.specs.Prelude.{◌≡◌, ℕ, zero, suc, ◌+◌, ◌<◌, ◌≤◌, ◌==◌, ◌||◌, ◌&&◌, Bool, true, false, not, cond, List, [], ◌∷◌, ◌++◌, map, filter, take, drop, length, get_or, replicate, slice_get, slice_set, Option, Some, None, IfSome, option_map, is_some, is_none, bytes_eq, refl}
use Rattle.std.specs.List.{list_any}
use Rattle.std.specs.declared.cmp.Ordering.TheVariants as order
use Rattle.std.specs.Cmp.Lexicographic.{pointwise}
use Rattle.std.proofs.Common.{◌∙◌, ap, sym, subst, arith, append-nil, append_assoc}
use Rattle.std.proofs.lemmas.List.{take_more, drop_more, drop_all, length-map, length-set}
use Rattle.std.proofs.lemmas.Slice.Eq.{bytes_eq-Decides}
use Rattle.std.proofs.lemmas.Bool.{and_parts}
use Rattle.std.proofs.lemmas.Bool.Decides.{nat_tests}
use borrow.Author.Tests.{eqb-true}
use Rattle.feed_values.specs.Snapshot.{entity_of}
use Rattle.rule_table.specs.declared.key.EntityKey.{EntityKey}
use Rattle.rule_table.specs.Groups.{Each}
use Rattle.rule_table.specs.Rises.{Rising}
use Rattle.rule_table.specs.Order.{same_key, key_cmp}
use Rattle.rule_table.specs.GroupLaws.{each_weaken}
use Rattle.rule_history.specs.History.{Keyed, id_of, count_id, keyed_after, ordered_after}
use Rattle.rule_history.specs.Changed.{is_payload}
use Rattle.rule_history.specs.Answered.{payload_under}
use Rattle.rule_history.proofs.Keyed.{rising_after}
use Rattle.engine_laws.specs.Delta.{is_other}
use Rattle.engine_laws.proofs.Sorted.{apart_rising}
use Rattle.engine_laws.proofs.Spots.{is_false, key_is, key_other}
use Rattle.entity_index.specs.Seats.{key_after, placed_after, occurrences_after, HeldSeat, Seats, places_of, AreSeats}
use Rattle.entity_index.specs.Held.{at_key}
use Rattle.entity_index.specs.Changes.{fresh_from}
use Rattle.entity_index.specs.Met.{met_with}
use Rattle.entity_index.proofs.AtKey.{at_first, at_later, each_found}
use Rattle.entity_index.proofs.Placed.{place_of, one_place, there_at, same_places}
use Rattle.entity_index.proofs.Taking.{places, keyed, entities-are, at-keyed, payload-at, seat-place}

-- ---- byte strings by place
pub read_payload : (ps : List (List ℕ)) (i : ℕ) (p : List ℕ) → Some p ≡ slice_get ps i → get_or ps i [] ≡ p
read_payload [] zero p h = cc
read_payload [] (suc i) p h = cc
read_payload (q ∷ ps) zero p h = sym (same h)
  where
    same : Some p ≡ Some q → p ≡ q
    same e = cc
read_payload (q ∷ ps) (suc i) p h = read_payload ps i p h

pub payload_there : (ps : List (List ℕ)) (i : ℕ) → i < length ps → slice_get ps i ≡ Some (get_or ps i [])
payload_there [] i l = absurd (omega (arith, l))
payload_there (p ∷ ps) zero l = refl
payload_there (p ∷ ps) (suc i) l = payload_there ps i (omega (arith, l))

-- what is said of the id of the byte string at a place
pub id_there : (ps : List (List ℕ)) (i : ℕ) → i < length ps → (id : List ℕ) → IfSome (slice_get ps i) (λ p. id ≡ (entity_of p).0) → id ≡ id_of (get_or ps i [])
id_there ps i l id h = subst (λ (o : Option (List ℕ)). IfSome o (λ p. id ≡ (entity_of p).0)) (payload_there ps i l) h

-- ---- one entity more of a snapshot
module _ (f : ℕ) (ps : List (List ℕ)) (i : ℕ) (l : i < length ps) where
  abbrev pub here : List ℕ
  here = get_or ps i []

  abbrev pub key_here : EntityKey
  key_here = key_after f (take i ps) here

  abbrev pub left : ℕ → List Keyed
  left j = keyed_after f (take j ps) (drop j ps)

  pub key_made : (id : List ℕ) (n : ℕ) → id ≡ id_of here → n ≡ count_id (take i ps) (id_of here) → (let k : EntityKey = record { feed = f; id = id; occurrence = n } in k) ≡ key_here
  key_made id n a b =
      ap (λ x. let k : EntityKey = record { feed = f; id = x; occurrence = n } in k) a ∙ ap (λ x. let k : EntityKey = record { feed = f; id = id_of here; occurrence = x } in k) b

  pub left_more : left i ≡ (key_here, here) ∷ left (i + 1)
  left_more = ap (keyed_after f (take i ps)) (drop_more ps i [] l) ∙ ap (λ d. (let e : Keyed = (key_here, here) in e) ∷ keyed_after f d (drop (i + 1) ps)) (sym (take_more ps i [] l))

  pub at_here : at_key key_here (places f ps) ≡ Some i
  at_here = there_at f [] 0 ps i l ∙ ap (λ n. Some n) (same i)
    where
      same : (j : ℕ) → j + 0 ≡ j
      same j = omega arith

  pub found_more : (found next : List EntityKey) → next ≡ found ++ key_here ∷ [] → next ++ map (λ e. e.0) (left (i + 1)) ≡ found ++ map (λ e. e.0) (left i)
  found_more found next put = ap (λ xs. xs ++ map (λ (e : Keyed). e.0) (left (i + 1))) put ∙ append_assoc found (key_here ∷ []) (map (λ (e : Keyed). e.0) (left (i + 1))) ∙ sym (ap (λ es. found ++ map (λ (e : Keyed). e.0) es) left_more)

  pub counted_more : (id : List ℕ) → count_id (take (i + 1) ps) id ≡ cond (bytes_eq (id_of here) id) 1 0 + count_id (take i ps) id
  counted_more id = ap (λ xs. count_id xs id) (take_more ps i [] l) ∙ count_last (take i ps)
    where
      moved : (a b c : ℕ) → a + (b + c) ≡ b + (a + c)
      moved a b c = omega arith

      count_last : (xs : List (List ℕ)) → count_id (xs ++ here ∷ []) id ≡ cond (bytes_eq (id_of here) id) 1 0 + count_id xs id
      count_last [] = refl
      count_last (x ∷ xs) = ap (λ n. cond (bytes_eq (id_of x) id) 1 0 + n) (count_last xs) ∙ moved (cond (bytes_eq (id_of x) id) 1 0) (cond (bytes_eq (id_of here) id) 1 0) (count_id xs id)

  -- occurrences so far
  pub occurrences_more : (found next : List ℕ) (n : ℕ) → n ≡ count_id (take i ps) (id_of here) → next ≡ found ++ n ∷ [] → next ++ occurrences_after (take (i + 1) ps) (drop (i + 1) ps) ≡ found ++ occurrences_after (take i ps) (drop i ps)
  occurrences_more found next n is put =
      ap (λ xs. xs ++ occurrences_after (take (i + 1) ps) (drop (i + 1) ps)) (put ∙ ap (λ m. found ++ m ∷ []) is)
      ∙ append_assoc found (count_id (take i ps) (id_of here) ∷ []) (occurrences_after (take (i + 1) ps) (drop (i + 1) ps))
      ∙ sym (ap (λ xs. found ++ xs) (ap (occurrences_after (take i ps)) (drop_more ps i [] l) ∙ ap (λ d. count_id (take i ps) (id_of here) ∷ occurrences_after d (drop (i + 1) ps)) (sym (take_more ps i [] l))))

  -- places that are left
  pub placed_left : placed_after f (take i ps) i (drop i ps) ≡ (key_here, i) ∷ placed_after f (take (i + 1) ps) (i + 1) (drop (i + 1) ps)
  placed_left =
      ap (placed_after f (take i ps) i) (drop_more ps i [] l) ∙ ap (λ d. (let e : EntityKey × ℕ = (key_here, i) in e) ∷ placed_after f d (i + 1) (drop (i + 1) ps)) (sym (take_more ps i [] l))

  module _ (before : List Keyed) where
    pub places_more : (b : Bool) (found next : List ℕ) → b ≡ is_other before (key_here, here) → next ≡ cond b (found ++ i ∷ []) found →
        next ++ fresh_from before (i + 1) (left (i + 1)) ≡ found ++ fresh_from before i (left i)
    places_more b found next is put =
        ap (λ xs. xs ++ fresh_from before (i + 1) (left (i + 1))) put ∙ either b ∙ ap (λ c. found ++ cond c (i ∷ fresh_from before (i + 1) (left (i + 1))) (fresh_from before (i + 1) (left (i + 1)))) is
        ∙ sym (ap (λ es. found ++ fresh_from before i es) left_more)
      where
        either : (c : Bool) → cond c (found ++ i ∷ []) found ++ fresh_from before (i + 1) (left (i + 1)) ≡ found ++ cond c (i ∷ fresh_from before (i + 1) (left (i + 1))) (fresh_from before (i + 1) (left (i + 1)))
        either true = append_assoc found (i ∷ []) (fresh_from before (i + 1) (left (i + 1)))
        either false = refl

    abbrev pub fresh_left : List Keyed → List EntityKey
    fresh_left es = map (λ e. e.0) (filter (is_other before) es)

    pub keys_more : (b : Bool) (found next : List EntityKey) → b ≡ is_other before (key_here, here) → next ≡ cond b (found ++ key_here ∷ []) found →
        next ++ fresh_left (left (i + 1)) ≡ found ++ fresh_left (left i)
    keys_more b found next is put =
        ap (λ xs. xs ++ fresh_left (left (i + 1))) put ∙ either b
        ∙ ap (λ c. found ++ map (λ (e : Keyed). e.0) (cond c ((let e : Keyed = (key_here, here) in e) ∷ filter (is_other before) (left (i + 1))) (filter (is_other before) (left (i + 1))))) is
        ∙ sym (ap (λ es. found ++ fresh_left es) left_more)
      where
        either : (c : Bool) → cond c (found ++ key_here ∷ []) found ++ fresh_left (left (i + 1))
            ≡ found ++ map (λ (e : Keyed). e.0) (cond c ((let e : Keyed = (key_here, here) in e) ∷ filter (is_other before) (left (i + 1))) (filter (is_other before) (left (i + 1))))
        either true = append_assoc found (key_here ∷ []) (fresh_left (left (i + 1)))
        either false = refl

-- where nothing was held all are fresh
pub all_other : (es : List Keyed) → filter (is_other []) es ≡ es
all_other [] = refl
all_other (e ∷ es) = ap (λ xs. e ∷ xs) (all_other es)

pub found_end : (f : ℕ) (ps : List (List ℕ)) (i : ℕ) (found all : List EntityKey) → length ps ≤ i → found ++ map (λ e. e.0) (keyed_after f (take i ps) (drop i ps)) ≡ all → found ≡ all
found_end f ps i found all l h = sym (append-nil found) ∙ ap (λ xs. found ++ map (λ (e : Keyed). e.0) (keyed_after f (take i ps) xs)) (sym (drop_all i ps l)) ∙ h

pub placed_end : (f : ℕ) (ps : List (List ℕ)) (i : ℕ) → length ps ≤ i → placed_after f (take i ps) i (drop i ps) ≡ []
placed_end f ps i l = ap (placed_after f (take i ps) i) (drop_all i ps l)

pub occurrences_end : (ps : List (List ℕ)) (i : ℕ) (found all : List ℕ) → length ps ≤ i → found ++ occurrences_after (take i ps) (drop i ps) ≡ all → found ≡ all
occurrences_end ps i found all l h = sym (append-nil found) ∙ ap (λ xs. found ++ occurrences_after (take i ps) xs) (sym (drop_all i ps l)) ∙ h

-- behind the last entity all was found
pub places_end : (f : ℕ) (ps : List (List ℕ)) (i : ℕ) (before : List Keyed) (found : List ℕ) → length ps ≤ i → found ++ fresh_from before i (keyed_after f (take i ps) (drop i ps)) ≡ fresh_from before 0 (keyed f ps) →
    found ≡ fresh_from before 0 (keyed f ps)
places_end f ps i before found l h = sym (append-nil found) ∙ ap (λ xs. found ++ fresh_from before i (keyed_after f (take i ps) xs)) (sym (drop_all i ps l)) ∙ h

pub keys_end : (f : ℕ) (ps : List (List ℕ)) (i : ℕ) (before : List Keyed) (found all : List EntityKey) → length ps ≤ i → found ++ map (λ e. e.0) (filter (is_other before) (keyed_after f (take i ps) (drop i ps))) ≡ all → found ≡ all
keys_end f ps i before found all l h = sym (append-nil found) ∙ ap (λ xs. found ++ map (λ (e : Keyed). e.0) (filter (is_other before) (keyed_after f (take i ps) xs))) (sym (drop_all i ps l)) ∙ h

-- ---- lists by place
pub key_at_place : (f : ℕ) (done ps : List (List ℕ)) (i : ℕ) (d : EntityKey) → i < length ps → get_or (map (λ e. e.0) (keyed_after f done ps)) i d ≡ key_after f (done ++ take i ps) (get_or ps i [])
key_at_place f done [] i d l = absurd (omega (arith, l))
key_at_place f done (p ∷ ps) zero d l = ap (λ xs. key_after f xs p) (sym (append-nil done))
key_at_place f done (p ∷ ps) (suc i) d l = key_at_place f (done ++ p ∷ []) ps i d (omega (arith, l)) ∙ ap (λ xs. key_after f xs (get_or ps i [])) (append_assoc done (p ∷ []) (take i ps))

pub occurrence_at : (done ps : List (List ℕ)) (i d : ℕ) → i < length ps → get_or (occurrences_after done ps) i d ≡ count_id (done ++ take i ps) (id_of (get_or ps i []))
occurrence_at done [] i d l = absurd (omega (arith, l))
occurrence_at done (p ∷ ps) zero d l = ap (λ xs. count_id xs (id_of p)) (sym (append-nil done))
occurrence_at done (p ∷ ps) (suc i) d l = occurrence_at (done ++ p ∷ []) ps i d (omega (arith, l)) ∙ ap (λ xs. count_id xs (id_of (get_or ps i []))) (append_assoc done (p ∷ []) (take i ps))

pub length-occurrences : (done ps : List (List ℕ)) → length (occurrences_after done ps) ≡ length ps
length-occurrences done [] = refl
length-occurrences done (p ∷ ps) = ap suc (length-occurrences (done ++ p ∷ []) ps)

pub length-keys : (f : ℕ) (done ps : List (List ℕ)) → length (map (λ e. e.0) (keyed_after f done ps)) ≡ length ps
length-keys f done [] = refl
length-keys f done (p ∷ ps) = ap suc (length-keys f (done ++ p ∷ []) ps)

pub same_length : (qs ps : List (List ℕ)) → map id_of qs ≡ map id_of ps → length qs ≡ length ps
same_length qs ps h = sym (length-map qs id_of) ∙ ap (λ (xs : List (List ℕ)). length xs) h ∙ length-map ps id_of

-- ---- two lists of byte strings
pub same_ids : (ps qs : List (List ℕ)) → pointwise bytes_eq ps qs ≡ true → pointwise bytes_eq (map id_of ps) (map id_of qs) ≡ true
same_ids [] [] h = refl
same_ids [] (q ∷ qs) h = cc
same_ids (p ∷ ps) [] h = cc
same_ids (p ∷ ps) (q ∷ qs) h =
    let e = and_parts (bytes_eq p q) (pointwise bytes_eq ps qs) h in
    ap (λ b. b && pointwise bytes_eq (map id_of ps) (map id_of qs)) ((bytes_eq-Decides (id_of p) (id_of q)).1 (ap id_of ((bytes_eq-Decides p q).0 e.0))) ∙ same_ids ps qs e.1

-- one byte string has one id
pub same_id : (p q : List ℕ) → bytes_eq p q ≡ true → bytes_eq (id_of p) (id_of q) ≡ true
same_id p q h = (bytes_eq-Decides (id_of p) (id_of q)).1 (ap id_of ((bytes_eq-Decides p q).0 h))

pub other_ids : (ps qs : List (List ℕ)) → pointwise bytes_eq (map id_of ps) (map id_of qs) ≡ false → pointwise bytes_eq ps qs ≡ false
other_ids ps qs h = is_false (pointwise bytes_eq ps qs) (λ e. let s = same_ids ps qs e in clash s)
  where
    clash : pointwise bytes_eq (map id_of ps) (map id_of qs) ≡ true → ⊥
    clash s = cc (h, s)

-- ids one by one
module _ (qs ps : List (List ℕ)) (i : ℕ) (l : i < length qs) (m : i < length ps) (x y : List ℕ) (at : x ≡ id_of (get_or qs i [])) (as_ : y ≡ id_of (get_or ps i [])) where
  ids_more : pointwise bytes_eq (map id_of (drop i qs)) (map id_of (drop i ps)) ≡ (bytes_eq x y && pointwise bytes_eq (map id_of (drop (i + 1) qs)) (map id_of (drop (i + 1) ps)))
  ids_more =
      ap (λ xs. pointwise bytes_eq (map id_of xs) (map id_of (drop i ps))) (drop_more qs i [] l)
      ∙ ap (λ xs. pointwise bytes_eq (map id_of (get_or qs i [] ∷ drop (i + 1) qs)) (map id_of xs)) (drop_more ps i [] m)
      ∙ ap (λ z. bytes_eq z (id_of (get_or ps i [])) && pointwise bytes_eq (map id_of (drop (i + 1) qs)) (map id_of (drop (i + 1) ps))) (sym at)
      ∙ ap (λ z. bytes_eq x z && pointwise bytes_eq (map id_of (drop (i + 1) qs)) (map id_of (drop (i + 1) ps))) (sym as_)

  pub ids_next : (all : Bool) → bytes_eq x y ≡ true → pointwise bytes_eq (map id_of (drop i qs)) (map id_of (drop i ps)) ≡ all → pointwise bytes_eq (map id_of (drop (i + 1) qs)) (map id_of (drop (i + 1) ps)) ≡ all
  ids_next all t h = ap (λ b. b && pointwise bytes_eq (map id_of (drop (i + 1) qs)) (map id_of (drop (i + 1) ps))) (sym t) ∙ sym ids_more ∙ h

  pub ids_differ : (all : Bool) → bytes_eq x y ≡ false → pointwise bytes_eq (map id_of (drop i qs)) (map id_of (drop i ps)) ≡ all → false ≡ all
  ids_differ all t h = ap (λ b. b && pointwise bytes_eq (map id_of (drop (i + 1) qs)) (map id_of (drop (i + 1) ps))) (sym t) ∙ sym ids_more ∙ h

pub ids_end : (qs ps : List (List ℕ)) (i : ℕ) (all : Bool) → length qs ≤ i → length ps ≤ i → pointwise bytes_eq (map id_of (drop i qs)) (map id_of (drop i ps)) ≡ all → true ≡ all
ids_end qs ps i all l m h = sym (ap (λ xs. pointwise bytes_eq (map id_of xs) (map id_of (drop i ps))) (drop_all i qs l) ∙ ap (λ xs. pointwise bytes_eq [] (map id_of xs)) (drop_all i ps m)) ∙ h

-- with the same ids in the same order: an entity is other exactly where its byte string is
module _ (f : ℕ) (qs ps : List (List ℕ)) (same : map id_of qs ≡ map id_of ps) where
  abbrev held : List Keyed
  held = ordered_after [] (keyed f qs)

  pub same_payload : (i : ℕ) (l : i < length ps) → payload_under (key_here f ps i l) held ≡ Some (get_or qs i [])
  same_payload i l = payload-at f qs (key_here f ps i l) ∙ ap (λ es. option_map (λ j. get_or qs j []) (at_key (key_here f ps i l) es)) (same_places f qs ps same) ∙ ap (option_map (λ j. get_or qs j [])) (at_here f ps i l)

  pub other_here : (i : ℕ) (l : i < length ps) (b : Bool) → b ≡ not (bytes_eq (get_or ps i []) (get_or qs i [])) → b ≡ is_other held (key_here f ps i l, get_or ps i [])
  other_here i l b h = h ∙ ap (λ o. not (is_payload (get_or ps i []) o)) (sym (same_payload i l))

  -- so nothing is gone
  pub none_gone : map (λ e. e.0) (filter (λ e. is_none (payload_under e.0 (ordered_after [] (keyed f ps)))) held) ≡ []
  none_gone = ap (map (λ (e : Keyed). e.0)) (go held (each_weaken (λ e. at_key e.0 held ≡ Some e.1) (λ e. is_none (payload_under e.0 (ordered_after [] (keyed f ps))) ≡ false) there held (each_found held (apart_rising held (rising_after [] (keyed f qs) tt)))))
    where
      some : (o : Option ℕ) (q : List ℕ) → option_map (λ j. get_or qs j []) o ≡ Some q → is_none (option_map (λ j. get_or ps j []) o) ≡ false
      some None q h = cc
      some (Some j) q h = refl

      there : (e : Keyed) → at_key e.0 held ≡ Some e.1 → is_none (payload_under e.0 (ordered_after [] (keyed f ps))) ≡ false
      there e h =
          ap is_none (payload-at f ps e.0 ∙ ap (λ es. option_map (λ n. get_or ps n []) (at_key e.0 es)) (sym (same_places f qs ps same)))
          ∙ some (at_key e.0 (places f qs)) e.1 (sym (payload-at f qs e.0) ∙ h)

      go : (es : List Keyed) → Each (λ e. is_none (payload_under e.0 (ordered_after [] (keyed f ps))) ≡ false) es → filter (λ e. is_none (payload_under e.0 (ordered_after [] (keyed f ps)))) es ≡ []
      go [] h = refl
      go (e ∷ es) h = ap (λ b. cond b (e ∷ filter (λ e. is_none (payload_under e.0 (ordered_after [] (keyed f ps)))) es) (filter (λ e. is_none (payload_under e.0 (ordered_after [] (keyed f ps)))) es)) h.0 ∙ go es h.1

-- ---- whether the lists of byte strings are others
module _ (qs ps : List (List ℕ)) (i : ℕ) (l : i < length qs) (m : i < length ps) where
  pub order_more : (b flag next : Bool) → b ≡ not (bytes_eq (get_or ps i []) (get_or qs i [])) → next ≡ cond b true flag →
      (not next && pointwise bytes_eq (drop (i + 1) qs) (drop (i + 1) ps)) ≡ (not flag && pointwise bytes_eq (drop i qs) (drop i ps))
  order_more b flag next is put =
      ap (λ n. not n && pointwise bytes_eq (drop (i + 1) qs) (drop (i + 1) ps)) put
      ∙ either b flag (bytes_eq (get_or qs i []) (get_or ps i [])) (pointwise bytes_eq (drop (i + 1) qs) (drop (i + 1) ps)) (is ∙ ap not (bytes_eq-sym (get_or ps i []) (get_or qs i [])))
      ∙ ap (λ c. not flag && c) (sym (ap (λ xs. pointwise bytes_eq xs (drop i ps)) (drop_more qs i [] l) ∙ ap (λ xs. pointwise bytes_eq (get_or qs i [] ∷ drop (i + 1) qs) xs) (drop_more ps i [] m)))
    where
      either : (c g e r : Bool) → c ≡ not e → (not (cond c true g) && r) ≡ (not g && (e && r))
      either true g true r h = cc
      either true true false r h = refl
      either true false false r h = refl
      either false g true r h = refl
      either false g false r h = cc

      bytes_eq-sym : (x y : List ℕ) → bytes_eq x y ≡ bytes_eq y x
      bytes_eq-sym x y = each (bytes_eq x y) (bytes_eq y x) refl refl
        where
          each : (a c : Bool) → bytes_eq x y ≡ a → bytes_eq y x ≡ c → a ≡ c
          each true true e g = refl
          each true false e g = let s : bytes_eq y x ≡ true = (bytes_eq-Decides y x).1 (sym ((bytes_eq-Decides x y).0 e)) in cc
          each false true e g = let s : bytes_eq x y ≡ true = (bytes_eq-Decides x y).1 (sym ((bytes_eq-Decides y x).0 g)) in cc
          each false false e g = refl

pub order_end : (qs ps : List (List ℕ)) (i : ℕ) (flag : Bool) → length qs ≤ i → length ps ≤ i → (not flag && pointwise bytes_eq (drop i qs) (drop i ps)) ≡ pointwise bytes_eq qs ps → flag ≡ not (pointwise bytes_eq qs ps)
order_end qs ps i flag l m h = back flag (pointwise bytes_eq qs ps) (ap (λ c. not flag && c) (sym (ap (λ xs. pointwise bytes_eq xs (drop i ps)) (drop_all i qs l) ∙ ap (pointwise bytes_eq []) (drop_all i ps m))) ∙ h)
  where
    back : (a b : Bool) → (not a && true) ≡ b → a ≡ not b
    back true b e = cc
    back false b e = cc

-- ---- what was met
-- whether a key is among some
abbrev pub among : EntityKey → List EntityKey → Bool
among k keys = list_any (λ q. same_key q k) keys

pub among-at : {A : Type 0} (k : EntityKey) (es : List (EntityKey × A)) → among k (map (λ e. e.0) es) ≡ is_some (at_key k es)
among-at k [] = refl
among-at {A} k (e ∷ es) = either (same_key e.0 k) refl (among-at k es)
  where
    either : (b : Bool) → same_key e.0 k ≡ b → among k (map (λ d. d.0) es) ≡ is_some (at_key k es) → (same_key e.0 k || among k (map (λ d. d.0) es)) ≡ is_some (at_key k (e ∷ es))
    either true h rest = ap (λ b. b || among k (map (λ d. d.0) es)) h ∙ sym (ap is_some (at_first e es k h))
    either false h rest = ap (λ b. b || among k (map (λ d. d.0) es)) h ∙ rest ∙ sym (ap is_some (at_later e es k h))

pub among-last : (k : EntityKey) (xs : List EntityKey) (x : EntityKey) → among k (xs ++ x ∷ []) ≡ (among k xs || same_key x k)
among-last k [] x = or_false (same_key x k)
  where
    or_false : (b : Bool) → (b || false) ≡ b
    or_false true = refl
    or_false false = refl
among-last k (y ∷ ys) x = ap (λ b. same_key y k || b) (among-last k ys x) ∙ apart (same_key y k) (among k ys) (same_key x k)
  where
    apart : (a b c : Bool) → (a || (b || c)) ≡ ((a || b) || c)
    apart true b c = refl
    apart false b c = refl

set_here : (met : List Bool) (i : ℕ) → i < length met → get_or (slice_set met i true) i false ≡ true
set_here [] i l = absurd (omega (arith, l))
set_here (b ∷ bs) zero l = refl
set_here (b ∷ bs) (suc i) l = set_here bs i (omega (arith, l))

set_there : (met : List Bool) (i j : ℕ) → (i == j) ≡ false → get_or (slice_set met i true) j false ≡ get_or met j false
set_there [] i j n = refl
set_there (b ∷ bs) zero zero n = cc
set_there (b ∷ bs) zero (suc j) n = refl
set_there (b ∷ bs) (suc i) zero n = refl
set_there (b ∷ bs) (suc i) (suc j) n = set_there bs i j (same i j n)
  where
    same : (i j : ℕ) → (suc i == suc j) ≡ false → (i == j) ≡ false
    same i j h = grind (arith, nat_tests)

-- what is held was met where its key came
pub record AreMet (seats : Seats) (keys : List EntityKey) (met : List Bool) : Type 0 where
  pub each : (k : EntityKey) (s : HeldSeat) → at_key k seats ≡ Some s → get_or met s.place false ≡ among k keys

pub length-met : (o : Option HeldSeat) (met : List Bool) → length (met_with o met) ≡ length met
length-met None met = refl
length-met (Some s) met = length-set met s.place true

-- at first none was
pub none_were : (seats : Seats) (n : ℕ) → AreMet seats [] (replicate n false)
none_were seats n = record { each = λ k s h. all_false n s.place }
  where
    all_false : (n i : ℕ) → get_or (replicate n false) i false ≡ false
    all_false zero i = refl
    all_false (suc n) zero = refl
    all_false (suc n) (suc i) = all_false n i

module _ (f : ℕ) (qs : List (List ℕ)) (phase : Bool) (seats : Seats) (are : AreSeats f qs phase seats) where
  pub seat_within : (k : EntityKey) (s : HeldSeat) → at_key k seats ≡ Some s → s.place < length qs
  seat_within k s h = let r = place_of f [] 0 qs k s.place (sym (seat-place f qs phase seats are k) ∙ ap (option_map (λ (x : HeldSeat). x.place)) h) in omega (arith, r.within)

  pub met_more : (key : EntityKey) (keys : List EntityKey) (met : List Bool) → length met ≡ length qs → AreMet seats keys met → AreMet seats (keys ++ key ∷ []) (met_with (at_key key seats) met)
  met_more key keys met long were = record { each = λ k s h. go k s h (at_key key seats) refl ∙ sym (among-last k keys key) }
    where
      some_same : (x y : HeldSeat) → Some x ≡ Some y → x ≡ y
      some_same x y e = cc

      right : (b : Bool) → b ≡ (b || false)
      right true = refl
      right false = refl

      go : (k : EntityKey) (s : HeldSeat) → at_key k seats ≡ Some s → (o : Option HeldSeat) → at_key key seats ≡ o → get_or (met_with o met) s.place false ≡ (among k keys || same_key key k)
      go k s h None m = were.each k s h ∙ right (among k keys) ∙ ap (λ b. among k keys || b) (sym (is_false (same_key key k) (λ e. clash (sym m ∙ ap (λ x. at_key x seats) (key_is key k e) ∙ h))))
        where
          clash : None ≡ Some s → ⊥
          clash e = cc
      go k s h (Some t) m = either (same_key key k) refl (t.place == s.place) refl
        where
          either : (b : Bool) → same_key key k ≡ b → (c : Bool) → (t.place == s.place) ≡ c → get_or (slice_set met t.place true) s.place false ≡ (among k keys || same_key key k)
          either true e c d =
              let same : t ≡ s = some_same t s (sym m ∙ ap (λ x. at_key x seats) (key_is key k e) ∙ h) in
              ap (λ n. get_or (slice_set met t.place true) n false) (ap (λ (x : HeldSeat). x.place) (sym same)) ∙ set_here met t.place (subst (λ n. t.place < n) (sym long) (seat_within key t m)) ∙ always (among k keys) (same_key key k) e
            where
              always : (a b : Bool) → b ≡ true → true ≡ (a || b)
              always true b h = refl
              always false b h = sym h
          either false e true d =
              absurd (key_other key k e (one_place f qs key k t.place s.place (sym (seat-place f qs phase seats are key) ∙ ap (option_map (λ (x : HeldSeat). x.place)) m)
              (sym (seat-place f qs phase seats are k) ∙ ap (option_map (λ (x : HeldSeat). x.place)) h) (eqb-true t.place s.place d)))
          either false e false d = set_there met t.place s.place d ∙ were.each k s h ∙ right (among k keys) ∙ ap (λ b. among k keys || b) (sym e)

  -- so what wasn't met is gone
  pub gone_is : (ps : List (List ℕ)) (met : List Bool) → AreMet seats (map (λ e. e.0) (keyed f ps)) met →
      map (λ e. e.0) (filter (λ e. not (get_or met e.1.place false)) seats) ≡ map (λ e. e.0) (filter (λ e. is_none (payload_under e.0 (ordered_after [] (keyed f ps)))) (ordered_after [] (keyed f qs)))
  gone_is ps met were =
      go seats (each_weaken (λ e. at_key e.0 seats ≡ Some e.1) (λ e. not (get_or met e.1.place false) ≡ is_none (payload_under e.0 (ordered_after [] (keyed f ps)))) test seats (each_found seats (apart_rising seats rise)))
      ∙ ap (λ es. map (λ (e : Keyed). e.0) (filter (λ (e : Keyed). is_none (payload_under e.0 (ordered_after [] (keyed f ps)))) es)) (sym held_is)
    where
      rise : Rising seats
      rise = rising_places seats (subst (λ (xs : List (EntityKey × ℕ)). Rising xs) (sym are.places_are) (rising_after [] (places f qs) tt))
        where
          below : (k : EntityKey) (es : Seats) → Each (λ x. key_cmp k x.0 ≡ order.Less) (places_of es) → Each (λ x. key_cmp k x.0 ≡ order.Less) es
          below k [] h = tt
          below k (e ∷ es) h = (h.0, below k es h.1)

          rising_places : (es : Seats) → Rising (places_of es) → Rising es
          rising_places [] h = tt
          rising_places (e ∷ es) h = (below e.0 es h.0, rising_places es h.1)

      held_is : ordered_after [] (keyed f qs) ≡ map {B = Keyed} (λ e. (e.0, get_or qs e.1.place [])) seats
      held_is = entities-are f qs ∙ ap (map {B = Keyed} (λ e. (e.0, get_or qs e.1 []))) (sym are.places_are) ∙ twice seats
        where
          twice : (es : Seats) → map {B = Keyed} (λ (e : EntityKey × ℕ). (e.0, get_or qs e.1 [])) (places_of es) ≡ map {B = Keyed} (λ e. (e.0, get_or qs e.1.place [])) es
          twice [] = refl
          twice (e ∷ es) = ap (λ xs. (let d : Keyed = (e.0, get_or qs e.1.place []) in d) ∷ xs) (twice es)

      same_none : (o : Option ℕ) → not (is_some o) ≡ is_none (option_map (λ j. get_or ps j []) o)
      same_none None = refl
      same_none (Some j) = refl

      some_kept : (o : Option ℕ) → is_some (option_map (λ j. get_or ps j []) o) ≡ is_some o
      some_kept None = refl
      some_kept (Some j) = refl

      test : (e : EntityKey × HeldSeat) → at_key e.0 seats ≡ Some e.1 → not (get_or met e.1.place false) ≡ is_none (payload_under e.0 (ordered_after [] (keyed f ps)))
      test e h =
          ap not (were.each e.0 e.1 h ∙ among-at e.0 (keyed f ps) ∙ ap is_some (at-keyed f ps e.0) ∙ some_kept (at_key e.0 (places f ps))) ∙ same_none (at_key e.0 (places f ps)) ∙ sym (ap is_none (payload-at f ps e.0))

      go : (es : Seats) → Each (λ e. not (get_or met e.1.place false) ≡ is_none (payload_under e.0 (ordered_after [] (keyed f ps)))) es →
          map (λ (e : EntityKey × HeldSeat). e.0) (filter (λ e. not (get_or met e.1.place false)) es)
          ≡ map (λ (e : Keyed). e.0) (filter (λ (e : Keyed). is_none (payload_under e.0 (ordered_after [] (keyed f ps)))) (map {B = Keyed} (λ e. (e.0, get_or qs e.1.place [])) es))
      go [] h = refl
      go (e ∷ es) h =
          ap (λ b. map (λ (x : EntityKey × HeldSeat). x.0) (cond b (e ∷ filter (λ x. not (get_or met x.1.place false)) es) (filter (λ x. not (get_or met x.1.place false)) es))) h.0
          ∙ either (is_none (payload_under e.0 (ordered_after [] (keyed f ps)))) (go es h.1)
        where
          either : (b : Bool) → map (λ (x : EntityKey × HeldSeat). x.0) (filter (λ x. not (get_or met x.1.place false)) es)
              ≡ map (λ (x : Keyed). x.0) (filter (λ (x : Keyed). is_none (payload_under x.0 (ordered_after [] (keyed f ps)))) (map {B = Keyed} (λ x. (x.0, get_or qs x.1.place [])) es)) →
              map (λ (x : EntityKey × HeldSeat). x.0) (cond b (e ∷ filter (λ x. not (get_or met x.1.place false)) es) (filter (λ x. not (get_or met x.1.place false)) es))
              ≡ map (λ (x : Keyed). x.0) (cond b ((let d : Keyed = (e.0, get_or qs e.1.place []) in d) ∷ filter (λ (x : Keyed). is_none (payload_under x.0 (ordered_after [] (keyed f ps)))) (map {B = Keyed} (λ x. (x.0, get_or qs x.1.place [])) es))
              (filter (λ (x : Keyed). is_none (payload_under x.0 (ordered_after [] (keyed f ps)))) (map {B = Keyed} (λ x. (x.0, get_or qs x.1.place [])) es)))
          either true r = ap (λ xs. e.0 ∷ xs) r
          either false r = r

  -- whether an entity is other is seen at its seat
  pub other_none : (k : EntityKey) (p : List ℕ) → at_key k seats ≡ None → true ≡ is_other (ordered_after [] (keyed f qs)) (k, p)
  other_none k p h = ap (λ o. not (is_payload p (option_map (λ j. get_or qs j []) o))) (ap (option_map (λ (x : HeldSeat). x.place)) (sym h) ∙ seat-place f qs phase seats are k) ∙ ap (λ o. not (is_payload p o)) (sym (payload-at f qs k))

  pub other_some : (k : EntityKey) (p : List ℕ) (s : HeldSeat) (b : Bool) → at_key k seats ≡ Some s → b ≡ not (bytes_eq p (get_or qs s.place [])) → b ≡ is_other (ordered_after [] (keyed f qs)) (k, p)
  other_some k p s b h is =
      is ∙ ap (λ o. not (is_payload p (option_map (λ j. get_or qs j []) o))) (ap (option_map (λ (x : HeldSeat). x.place)) (sym h) ∙ seat-place f qs phase seats are k) ∙ ap (λ o. not (is_payload p o)) (sym (payload-at f qs k))
