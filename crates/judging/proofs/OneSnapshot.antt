-- The findings after a history of one snapshot are those of this snapshot by itself.
use Rattle.std.specs.Prelude.{◌≡◌, ◌<◌, ◌+◌, ◌==◌, ℕ, zero, suc, Bool, true, false, List, [], ◌∷◌, ◌++◌, reverse, map, Option, Some, None, option_map, option_and_then, bytes_eq, cond, refl}
use Rattle.std.specs.Option.{option_or}
use Rattle.std.specs.List.{flat_map, find}
use Rattle.std.specs.declared.cmp.Ordering.{Ordering}
use Rattle.std.specs.declared.cmp.Ordering.TheVariants as order
use Rattle.std.specs.Ordering.{is_eq, ordering_reverse, match_ordering}
use Rattle.std.specs.BTreeMap.{insert_entry}
use Rattle.std.proofs.Common.{sym, ap, ◌∙◌, arith, eq-eqb}
use Rattle.std.proofs.Math.Path.{fun_ext}
use Rattle.std.proofs.lemmas.Bool.{true≢false}
use Rattle.std.proofs.lemmas.List.{append-nil}
use borrow.Author.Tests.{eqb-true, ne_eqb}
use Rattle.feed_values.specs.Schema.{Value}
use Rattle.feed_values.specs.Messages.{entity}
use Rattle.feed_values.specs.Snapshot.{header_of, entity_payloads, entities_of, entity_of}
use Rattle.feed_values.proofs.SnapshotFields.{snapshot_is_its_fields}
use Rattle.feed_values.specs.declared.cell_value.CellValue.{CellValue}
use Rattle.timetable.specs.Timetables.{Tables}
use Rattle.rule_table.specs.declared.ask.Ask.{Ask}
use Rattle.rule_table.specs.declared.key.EntityKey.{EntityKey}
use Rattle.rule_table.specs.Order.{key_cmp, same_key}
use Rattle.rule_table.specs.Table.{all_rules}
use Rattle.rule_table.specs.Found.{Found}
use Rattle.rule_table.specs.Judged.{found_all, head_found_all}
use Rattle.rule_table.specs.Groups.{Each}
use Rattle.rule_table.specs.CitedLaws.{both_same}
use Rattle.rule_table.specs.Pairs.{PairRow, rows_of}
use Rattle.rule_table.specs.Peaks.{greatest, no_peaks}
use Rattle.rule_history.specs.History.{Snapshot, Keyed, now, before, entities, entities_in, entities_of_snapshot, keyed_after, ordered_after, count_id, id_of, below, feed_limit, first_of, second_of}
use Rattle.rule_table.specs.Answers.{Gathered, Heads, entity_answer}
use Rattle.rule_history.specs.Answered.{heads_of, rows_in, rows, gathered, shared_answer, feed_answer, payload_under}
use Rattle.rule_history.specs.Peaks.{all_but_first, peak, stamps_in}
use Rattle.rule_history.specs.Findings.{entity_findings, feed_findings, findings}
use Rattle.rule_table.proofs.SameKeys.{keys_total, same-key}
use Rattle.rule_history.proofs.Keyed.{each_ordered, rising_after, keyed_feed}
use Rattle.judging.specs.Seats as seat
use Rattle.judging.specs.Seats.{Seat, Rising, seated_after, seats}
use Rattle.judging.specs.Whole.{rows_alone, entity_found, header_found}
use Rattle.judging.specs.Judged.{first_heads, seat_rows, found_at_seats, snapshot_found, OneSnapshot}

-- ---- keys in order
same_is : (a b : EntityKey) → same_key a b ≡ is_eq (key_cmp a b)
same_is a b = sym (same-key a b)

-- under its key each entry of a list in order is found
abbrev IsFound : List Keyed → Keyed → Type 0
IsFound es e = payload_under e.0 es ≡ Some e.1

found_first : (e : Keyed) (es : List Keyed) → IsFound (e ∷ es) e
found_first e es = ap (λ b. option_map (λ x. x.1) (cond b (Some e) (find (λ x. same_key x.0 e.0) es))) (same_is e.0 e.0 ∙ itself)
  where
    total : (k : EntityKey) → key_cmp k k ≡ ordering_reverse (key_cmp k k) → is_eq (key_cmp k k) ≡ true
    total k h = either (key_cmp k k) h where
      either : (o : Ordering) → o ≡ ordering_reverse o → is_eq o ≡ true
      either order.Less q = cc
      either order.Equal q = refl
      either order.Greater q = cc

    itself : is_eq (key_cmp e.0 e.0) ≡ true
    itself = total e.0 (keys_total.antisymm e.0 e.0)

found_later : (e d : Keyed) (es : List Keyed) → key_cmp e.0 d.0 ≡ order.Less → IsFound es d → IsFound (e ∷ es) d
found_later e d es l h = ap (λ b. option_map (λ x. x.1) (cond b (Some e) (find (λ x. same_key x.0 d.0) es))) (same_is e.0 d.0 ∙ ap is_eq l) ∙ h

each_found : (es : List Keyed) → Rising es → Each (IsFound es) es
each_found [] h = tt
each_found (e ∷ es) h = (found_first e es, both es h.0 (each_found es h.1))
  where
    both : (ds : List Keyed) → Each (λ d. key_cmp e.0 d.0 ≡ order.Less) ds → Each (IsFound es) ds → Each (IsFound (e ∷ es)) ds
    both [] l m = tt
    both (d ∷ ds) l m = (found_later e d es l.0 m.0, both ds l.1 m.1)

-- ---- by value in place of byte strings
abbrev pub value_of : Keyed → Seat
value_of e = (e.0, entity_of e.1)

insert_value : (es : List Keyed) (k : EntityKey) (p : List ℕ) → map value_of (insert_entry key_cmp es k p) ≡ insert_entry key_cmp (map value_of es) k (entity_of p)
insert_value [] k p = refl
insert_value (e ∷ es) k p =
    elim (key_cmp k e.0) as (λ o. map value_of (match_ordering o ((k, p) ∷ e ∷ es) ((e.0, p) ∷ es) (e ∷ insert_entry key_cmp es k p))
    ≡ match_ordering o ((k, entity_of p) ∷ map value_of (e ∷ es)) ((e.0, entity_of p) ∷ map value_of es) (value_of e ∷ insert_entry key_cmp (map value_of es) k (entity_of p))) [
      | order.Less ↦ refl
      | order.Equal ↦ refl
      | order.Greater ↦ ap (λ xs. value_of e ∷ xs) (insert_value es k p)
    ]

ordered_value : (done es : List Keyed) → map value_of (ordered_after done es) ≡ ordered_after (map value_of done) (map value_of es)
ordered_value done [] = refl
ordered_value done (e ∷ es) = ordered_value (insert_entry key_cmp done e.0 e.1) es ∙ ap (λ xs. ordered_after xs (map value_of es)) (insert_value done e.0 e.1)

count_value : (ps : List (List ℕ)) (id : List ℕ) → count_id ps id ≡ seat.count_id (map entity_of ps) id
count_value [] id = refl
count_value (p ∷ ps) id = ap (λ n. cond (bytes_eq (id_of p) id) 1 0 + n) (count_value ps id)

map_last : (done : List (List ℕ)) (p : List ℕ) → map entity_of (done ++ p ∷ []) ≡ map entity_of done ++ entity_of p ∷ []
map_last [] p = refl
map_last (d ∷ done) p = ap (λ xs. entity_of d ∷ xs) (map_last done p)

keyed_value : (f : ℕ) (done ps : List (List ℕ)) → map value_of (keyed_after f done ps) ≡ seated_after f (map entity_of done) (map entity_of ps)
keyed_value f done [] = refl
keyed_value f done (p ∷ ps) =
    ap (λ n. (let s : Seat = (record { feed = f; id = id_of p; occurrence = n }, entity_of p) in s) ∷ map value_of (keyed_after f (done ++ p ∷ []) ps)) (count_value done (id_of p))
    ∙ ap (λ xs. (let s : Seat = (record { feed = f; id = id_of p; occurrence = seat.count_id (map entity_of done) (id_of p) }, entity_of p) in s) ∷ xs)
    (keyed_value f (done ++ p ∷ []) ps ∙ ap (λ ds. seated_after f ds (map entity_of ps)) (map_last done p))

-- the entities of a snapshot by value
pub seats_are : (f : ℕ) (bytes : List ℕ) → map value_of (entities_in f bytes) ≡ seats f (entities_of bytes)
seats_are f bytes =
    ordered_value [] (keyed_after f [] (entity_payloads bytes)) ∙ ap (ordered_after []) (keyed_value f [] (entity_payloads bytes))
    ∙ ap (seats f) (sym (snapshot_is_its_fields.entities bytes))

pub seats_rise : (f : ℕ) (es : List (Value entity)) → Rising (seats f es)
seats_rise f es = rising_after [] (seated_after f [] es) tt

flat_value : {A : Type 0} (part : Seat → List A) (es : List Keyed) → flat_map (λ e. part (value_of e)) es ≡ flat_map part (map value_of es)
flat_value part [] = refl
flat_value part (e ∷ es) = ap (λ xs. part (value_of e) ++ xs) (flat_value part es)

-- ---- one feed alone
below_none : {A : Type 0} (part : ℕ → List A) (n : ℕ) → ((g : ℕ) → g < n → part g ≡ []) → below part n ≡ []
below_none part zero h = refl
below_none part (suc n) h = both_same (below_none part n (λ g l. h g (up g l))) (h n (last n))
  where
    up : (g : ℕ) → g < n → g < suc n
    up g l = omega (arith, l)

    last : (m : ℕ) → m < suc m
    last m = omega arith

below_one : {A : Type 0} (part : ℕ → List A) (f : ℕ) → ((g : ℕ) → (f == g) ≡ false → part g ≡ []) → (n : ℕ) → f < n → below part n ≡ part f
below_one part f h zero l = absurd (none l)
  where
    none : f < zero → ⊥
    none m = omega (arith, m)
below_one part f h (suc n) l = either (f == n) refl (λ e. below_one part f h n (under f n l e))
  where
    under : (a b : ℕ) → a < suc b → (a == b) ≡ false → a < b
    under a b p q = smaller (λ e. true≢false (sym (eq-eqb a b e) ∙ q)) p where
      smaller : (a ≡ b → ⊥) → a < suc b → a < b
      smaller other m = omega (arith, m, other)

    differs : (g m : ℕ) → g < m → f ≡ m → f ≡ g → ⊥
    differs g m a b c = omega arith

    either : (b : Bool) → (f == n) ≡ b → ((f == n) ≡ false → below part n ≡ part f) → (below part n ++ part n) ≡ part f
    either true e ih =
        let same : f ≡ n = eqb-true f n e in
        both_same (below_none part n (λ g a. h g (ne_eqb f g (differs g n a same)))) (ap part (sym same))
    either false e ih = both_same (ih e) (h n e) ∙ append-nil (part f)

module _ (t : Option Tables) (s : Snapshot) where
  abbrev h : List Snapshot
  h = s ∷ []

  now_is : (g : ℕ) (b : Bool) → (s.feed == g) ≡ b → now h g ≡ cond b (Some s) None
  now_is g b e = ap (λ x. first_of (reverse (cond x (s ∷ []) []))) e ∙ either b
    where
      either : (x : Bool) → first_of (reverse (cond x (s ∷ []) [])) ≡ cond x (Some s) None
      either true = refl
      either false = refl

  now_here : now h s.feed ≡ Some s
  now_here = now_is s.feed true (eq-eqb s.feed s.feed refl)

  none_before : before h s.feed ≡ None
  none_before = ap (λ x. second_of (reverse (cond x (s ∷ []) []))) (eq-eqb s.feed s.feed refl)

  now_none : (g : ℕ) → (s.feed == g) ≡ false → now h g ≡ None
  now_none g e = now_is g false e

  abbrev es : List Keyed
  es = entities_in s.feed s.bytes

  entities_here : entities h s.feed ≡ es
  entities_here = ap entities_of_snapshot now_here

  abbrev heads : Heads
  heads = first_heads (header_of s.bytes) s.moment

  rows_here : s.feed < feed_limit → rows h ≡ rows_in es
  rows_here l =
      below_one (λ f. rows_in (entities h f)) s.feed (λ g e. ap (λ o. rows_in (entities_of_snapshot o)) (now_none g e)) feed_limit l
      ∙ ap rows_in entities_here

  -- before the one snapshot there is none
  no_peak : peak h ≡ no_peaks
  no_peak = fun_ext (λ f. fun_ext (λ v. go v (s.feed == f)))
    where
      go : (v : List ℕ) (b : Bool) → greatest (flat_map (stamps_in v) (all_but_first (reverse (cond b (s ∷ []) [])))) ≡ None
      go v true = refl
      go v false = refl

  -- what is answered of the feed
  abbrev told : Gathered → Ask → Option CellValue
  told r = shared_answer t r heads

  header_is : (r : Gathered) → gathered h ≡ r → head_found_all all_rules (feed_answer t h s.feed) s.feed ≡ header_found t r heads s.feed
  unfolding header_found
  header_is r e =
      ap (λ o. head_found_all all_rules (λ a. option_and_then (λ x. shared_answer t (gathered h) (heads_of x (before h s.feed)) a) o) s.feed) now_here
      ∙ ap (λ p. head_found_all all_rules (λ a. shared_answer t (gathered h) (heads_of s p) a) s.feed) none_before
      ∙ ap (λ u. head_found_all all_rules (told u) s.feed) e

  -- at an entity of the snapshot
  entity_is : (r : Gathered) → gathered h ≡ r → (e : Keyed) → e.0.feed ≡ s.feed → payload_under e.0 es ≡ Some e.1 → entity_findings t h e ≡ entity_found t r heads e.0 (entity_of e.1)
  unfolding entity_found
  entity_is r u e f p =
      ap (λ g. found_all all_rules (λ a. option_and_then (λ q. option_or (entity_answer e.0 (entity_of q) a) (feed_answer t h g a)) (payload_under e.0 (entities h g))) e.0 (entity_of e.1)) f
      ∙ ap (λ o. found_all all_rules (λ a. option_and_then (λ q. option_or (entity_answer e.0 (entity_of q) a) (feed_answer t h s.feed a)) o) e.0 (entity_of e.1)) (ap (payload_under e.0) entities_here ∙ p)
      ∙ ap (λ o. found_all all_rules (λ a. option_or (entity_answer e.0 (entity_of e.1) a) (option_and_then (λ x. shared_answer t (gathered h) (heads_of x (before h s.feed)) a) o)) e.0 (entity_of e.1)) now_here
      ∙ ap (λ b. found_all all_rules (λ a. option_or (entity_answer e.0 (entity_of e.1) a) (shared_answer t (gathered h) (heads_of s b) a)) e.0 (entity_of e.1)) none_before
      ∙ ap (λ v. found_all all_rules (λ a. option_or (entity_answer e.0 (entity_of e.1) a) (told v a)) e.0 (entity_of e.1)) u

  entities_are : (r : Gathered) → gathered h ≡ r → (ds : List Keyed) → Each (λ e. e.0.feed ≡ s.feed) ds → Each (IsFound es) ds
      → flat_map (entity_findings t h) ds ≡ flat_map (λ e. entity_found t r heads e.0 (entity_of e.1)) ds
  entities_are r u [] f p = refl
  entities_are r u (d ∷ ds) f p = both_same (entity_is r u d f.0 p.0) (entities_are r u ds f.1 p.1)

  abbrev feed_part : ℕ → List Found
  feed_part f = feed_findings t h f (now h f)

  one : s.feed < feed_limit → findings t h ≡ snapshot_found t s.feed s.moment (header_of s.bytes) (entities_of s.bytes)
  one l =
      let r : List PairRow = seat_rows (seats s.feed (entities_of s.bytes)) in
      let v : rows h ≡ r = rows_here l ∙ flat_value (λ e. rows_of e.0 e.1) es ∙ ap seat_rows (seats_are s.feed s.bytes) in
      let u : gathered h ≡ rows_alone r = ap (λ rs. let g : Gathered = record { rows = rs; peaks = peak h } in g) v ∙ ap (λ p. let g : Gathered = record { rows = r; peaks = p } in g) no_peak in
      below_one feed_part s.feed (λ g e. ap (feed_findings t h g) (now_none g e)) feed_limit l
      ∙ ap (feed_findings t h s.feed) now_here
      ∙ both_same (header_is (rows_alone r) u)
      (ap (flat_map (entity_findings t h)) entities_here
      ∙ entities_are (rows_alone r) u es (each_ordered (λ k. k.feed ≡ s.feed) [] (keyed_after s.feed [] (entity_payloads s.bytes)) tt (keyed_feed s.feed [] (entity_payloads s.bytes)))
      (each_found es (rising_after [] (keyed_after s.feed [] (entity_payloads s.bytes)) tt))
      ∙ flat_value (λ e. entity_found t (rows_alone r) heads e.0 e.1) es
      ∙ ap (found_at_seats t r heads) (seats_are s.feed s.bytes))

pub one_snapshot : OneSnapshot
one_snapshot t s l = one t s l
