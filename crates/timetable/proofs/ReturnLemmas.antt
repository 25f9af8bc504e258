-- Trips that return to a stop, in words of their rows.
use Rattle.std.proofs.Common.{◌≡◌, ◌<◌, ◌==◌, ◌||◌, ◌++◌, ℕ, zero, suc, List, [], ◌∷◌, length, get_or, map, nat_eq, Bool, true, false, Option, Some, None, Less, Equal, Greater, Ordering, option_map, slice_get, unwrap_or, IsTrue, T, ◌↔◌, refl, sym, ap, subst, ◌∙◌, arith, append-nil, append_assoc}
use Rattle.std.proofs.lemmas.Bool.Decides.{nat_tests}
use Rattle.std.proofs.lemmas.Cmp.{nat_cmp_total, nat_list_eq_equiv}
use Rattle.std.proofs.lemmas.Map.Entries.{lookup_from_place, place_from_lookup}
use Rattle.std.proofs.lemmas.Map.Keys.{IsDistinct-push, apart_from_distinct}
use Rattle.std.specs.BTreeMap.{is_at}
use Rattle.std.specs.Cmp.{eq_by_cmp_equiv, nat_eq_equiv}
use Rattle.std.specs.FinMap.{empty, entries, entries_sorted, get, get-empty, get-entries, is_sorted, nat_cmp-IsAntisymmetric}
use Rattle.std.specs.FinMap.Entries.{below_all}
use Rattle.std.specs.List.{AllByRecursion, IsDistinct, list_any}
use Rattle.std.specs.Map.{keys_of}
use Rattle.std.specs.Option.{option_and_then}
use Rattle.std.specs.Ordering.{eq_by_cmp, nat_cmp}
use Rattle.std.specs.Str.{bytes_eq}
use Rattle.schedule_tables.specs.Maps.{Text}
use Rattle.schedule_tables.specs.Stops.{HoldsVisits, StopTable, stop_time_at, visit_of}
use Rattle.schedule_tables.specs.Times.{BySequence}
use Rattle.timetable.specs.Timetables.{StopsTwice, returns_to, trip_times, visits_twice}
use Rattle.schedule_rows.specs.declared.visit.Visit.{Visit}
use Rattle.schedule_rows.specs.declared.row.Row.{Row}
use Rattle.schedule_tables.specs.declared.stop_time.StopTime.{StopTime}
use Rattle.schedule_tables.proofs.KeyedLemmas.{one_key}
use Rattle.schedule_tables.proofs.RowLemmas.{find-lookup}
use Rattle.schedule_tables.proofs.SequenceLemmas.{both_true, less}

-- ---- a number that stands twice in a list

record Twice (xs : List ℕ) : Type 0 where
  number : ℕ
  first : ℕ
  later : ℕ
  earlier : first < later
  at_first : slice_get xs first ≡ Some number
  at_later : slice_get xs later ≡ Some number

abbrev stops_of : List StopTime → List ℕ
stops_of ts = map (λ t. t.stop) ts

both_false : (a b : Bool) → (a || b) ≡ false → (a ≡ false) × (b ≡ false)
both_false true b h = cc h
both_false false b h = (refl, h)

differ : (seen : List ℕ) (ts : List StopTime) → IsDistinct nat_eq seen → returns_to seen ts ≡ false → IsDistinct nat_eq (seen ++ stops_of ts)
differ seen [] distinct h = subst (IsDistinct nat_eq) (sym (append-nil seen)) distinct
differ seen (t ∷ ts) distinct h =
    let parts = both_false (list_any (λ stop. t.stop == stop) seen) (returns_to (seen ++ t.stop ∷ []) ts) h in
    subst (IsDistinct nat_eq) (append_assoc seen (t.stop ∷ []) (stops_of ts)) (differ (seen ++ t.stop ∷ []) ts (IsDistinct-push nat_eq_equiv seen t.stop distinct parts.0) parts.1)

-- a number that is found stands somewhere
found : (n : ℕ) (xs : List ℕ) → list_any (λ x. n == x) xs ≡ true → (i : ℕ) × (i < length xs) × (slice_get xs i ≡ Some n)
found n [] h = cc h
found n (x ∷ xs) h = by (n == x) refl h (found n xs)
  where
    by : (b : Bool) → (n == x) ≡ b → (b || list_any (λ y. n == y) xs) ≡ true → (list_any (λ y. n == y) xs ≡ true → (i : ℕ) × (i < length xs) × (slice_get xs i ≡ Some n))
        → (i : ℕ) × (i < length (x ∷ xs)) × (slice_get (x ∷ xs) i ≡ Some n)
    by true is any rest = (0, omega arith, ap Some (grind (arith, nat_tests, is)))
    by false is any rest = let r = rest any in (suc r.0, omega (arith, r.1), r.2)

front : (xs ys : List ℕ) (i : ℕ) → i < length xs → slice_get (xs ++ ys) i ≡ slice_get xs i
front [] ys i h = absurd (omega arith)
front (x ∷ xs) ys zero h = refl
front (x ∷ xs) ys (suc i) h = front xs ys i (omega arith)

next : (xs : List ℕ) (x : ℕ) (ys : List ℕ) → slice_get (xs ++ x ∷ ys) (length xs) ≡ Some x
next [] x ys = refl
next (y ∷ xs) x ys = next xs x ys

twice : (seen : List ℕ) (ts : List StopTime) → returns_to seen ts ≡ true → Twice (seen ++ stops_of ts)
twice seen [] h = cc h
twice seen (t ∷ ts) h = by (list_any (λ stop. t.stop == stop) seen) refl h (twice (seen ++ t.stop ∷ []) ts)
  where
    by : (b : Bool) → list_any (λ stop. t.stop == stop) seen ≡ b → (b || returns_to (seen ++ t.stop ∷ []) ts) ≡ true
        → (returns_to (seen ++ t.stop ∷ []) ts ≡ true → Twice ((seen ++ t.stop ∷ []) ++ stops_of ts)) → Twice (seen ++ t.stop ∷ stops_of ts)
    by true is any rest =
        let at = found t.stop seen is in
        record {
          number = t.stop;
          first = at.0;
          later = length seen;
          earlier = at.1;
          at_first = front seen (t.stop ∷ stops_of ts) at.0 at.1 ∙ at.2;
          at_later = next seen t.stop (stops_of ts);
        }
    by false is any rest = subst Twice (append_assoc seen (t.stop ∷ []) (stops_of ts)) (rest any)

none_twice : IsDistinct nat_eq []
unfolding IsDistinct
none_twice = tt

or_at : (xs : List ℕ) (i n d : ℕ) → slice_get xs i ≡ Some n → (i < length xs) × (get_or xs i d ≡ n)
or_at [] i n d h = cc h
or_at (x ∷ xs) zero n d h = (omega arith, cc h)
or_at (x ∷ xs) (suc i) n d h = let r = or_at xs i n d h in (omega (arith, r.0), r.1)

returns_if : (ts : List StopTime) → Twice (stops_of ts) → returns_to [] ts ≡ true
returns_if ts t = by (returns_to [] ts) refl
  where
    by : (b : Bool) → returns_to [] ts ≡ b → b ≡ true
    by true h = refl
    by false h =
        let first = or_at (stops_of ts) t.first t.number 0 t.at_first in
        let later = or_at (stops_of ts) t.later t.number 0 t.at_later in
        let apart = apart_from_distinct nat_eq (stops_of ts) t.first t.later 0 (differ [] ts none_twice h) t.earlier later.0 in
        let laws = nat_eq_equiv in
        cc (sym (laws.refl t.number) ∙ ap (λ n. nat_eq n t.number) (sym first.1) ∙ ap (nat_eq (get_or (stops_of ts) t.first 0)) (sym later.1) ∙ apart)

-- ---- entries in the order of their sequences

abbrev Entries : Type 0
Entries = List (ℕ × StopTime)

above_first : (k : ℕ) (es : Entries) (j : ℕ) (e : ℕ × StopTime) → IsTrue (below_all nat_cmp k es) → slice_get es j ≡ Some e → k < e.0
above_first k [] j e h at = cc at
above_first k (x ∷ es) zero e h at = let same : x ≡ e = cc at in subst (λ y. k < y.0) same (less k x.0 (both_true _ _ h).0)
above_first k (x ∷ es) (suc j) e h at = above_first k es j e (both_true _ _ h).1 at

keys_rise : (es : Entries) (i j : ℕ) (d e : ℕ × StopTime) → IsTrue (is_sorted nat_cmp es) → i < j → slice_get es i ≡ Some d → slice_get es j ≡ Some e → d.0 < e.0
keys_rise [] i j d e h lt at_i at_j = cc at_i
keys_rise (x ∷ es) i zero d e h lt at_i at_j = absurd (omega arith)
keys_rise (x ∷ es) zero (suc j) d e h lt at_i at_j = let same : x ≡ d = cc at_i in subst (λ y. y.0 < e.0) same (above_first x.0 es j e (both_true _ _ h).0 at_j)
keys_rise (x ∷ es) (suc i) (suc j) d e h lt at_i at_j = keys_rise es i j d e (both_true _ _ h).1 (omega arith) at_i at_j

distinct_keys : (es : Entries) → IsTrue (is_sorted nat_cmp es) → IsDistinct (eq_by_cmp nat_cmp) (keys_of es)
unfolding IsDistinct
distinct_keys [] h = tt
distinct_keys (e ∷ es) h = (others es (both_true _ _ h).0, distinct_keys es (both_true _ _ h).1)
  where
    others : (fs : Entries) → IsTrue (below_all nat_cmp e.0 fs) → AllByRecursion (λ k. eq_by_cmp nat_cmp e.0 k ≡ false) (keys_of fs)
    others [] all = tt
    others (f ∷ fs) all = let under = less e.0 f.0 (both_true _ _ all).0 in (grind (arith, nat_tests, under), others fs (both_true _ _ all).1)

sorted : (trip : BySequence) → IsTrue (is_sorted nat_cmp (entries trip))
sorted trip = from_T _ (entries_sorted trip)
  where
    from_T : (b : Bool) → T b → b ≡ true
    from_T true h = refl
    from_T false h = absurd h

get_place : (trip : BySequence) (i : ℕ) (e : ℕ × StopTime) → slice_get (entries trip) i ≡ Some e → get trip e.0 ≡ Some e.1
get_place trip i e at = get-entries trip e.0 ∙ find-lookup (entries trip) e.0
    ∙ lookup_from_place (eq_by_cmp_equiv nat_cmp_total) (entries trip) i e.0 e.1 (distinct_keys (entries trip) (sorted trip)) at

place_get : (trip : BySequence) (q : ℕ) (t : StopTime) → get trip q ≡ Some t → (i : ℕ) × (slice_get (entries trip) i ≡ Some (q, t))
place_get trip q t at =
    let place = place_from_lookup (is_at (nat_cmp q)) (entries trip) t (sym (find-lookup (entries trip) q) ∙ sym (get-entries trip q) ∙ at) in
    (place.0, place.2 ∙ ap (λ k. Some (k, t)) (sym (one_key nat_cmp nat_cmp-IsAntisymmetric q place.1 place.3)))

-- ---- a trip that has two stop times of one number

record Pair (trip : BySequence) : Type 0 where
  first : ℕ
  later : ℕ
  one : StopTime
  other : StopTime
  earlier : first < later
  at_first : get trip first ≡ Some one
  at_later : get trip later ≡ Some other
  same : one.stop ≡ other.stop

abbrev stop_at : Entries → List ℕ
stop_at es = stops_of (map (λ e. e.1) es)

entry_at : (es : Entries) (i n : ℕ) → slice_get (stop_at es) i ≡ Some n → (e : ℕ × StopTime) × (slice_get es i ≡ Some e) × (e.1.stop ≡ n)
entry_at [] i n h = cc h
entry_at (e ∷ es) zero n h = (e, refl, cc h)
entry_at (e ∷ es) (suc i) n h = entry_at es i n h

stop_at_entry : (es : Entries) (i : ℕ) (e : ℕ × StopTime) → slice_get es i ≡ Some e → slice_get (stop_at es) i ≡ Some e.1.stop
stop_at_entry [] i e h = cc h
stop_at_entry (x ∷ es) zero e h = ap (option_map (λ y. y.1.stop)) h
stop_at_entry (x ∷ es) (suc i) e h = stop_at_entry es i e h

pair : (trip : BySequence) → visits_twice trip ≡ true → Pair trip
pair trip h =
    let both = twice [] (map (λ e. e.1) (entries trip)) h in
    let first = entry_at (entries trip) both.first both.number both.at_first in
    let later = entry_at (entries trip) both.later both.number both.at_later in
    record {
      first = first.0.0;
      later = later.0.0;
      one = first.0.1;
      other = later.0.1;
      earlier = keys_rise (entries trip) both.first both.later first.0 later.0 (sorted trip) both.earlier first.1 later.1;
      at_first = get_place trip both.first first.0 first.1;
      at_later = get_place trip both.later later.0 later.1;
      same = first.2 ∙ sym later.2;
    }

twice_if_pair : (trip : BySequence) → Pair trip → visits_twice trip ≡ true
twice_if_pair trip p =
    let first = place_get trip p.first p.one p.at_first in
    let later = place_get trip p.later p.other p.at_later in
    returns_if (map (λ e. e.1) (entries trip)) (record {
      number = p.one.stop;
      first = first.0;
      later = later.0;
      earlier = before first.0 later.0 first.1 later.1;
      at_first = stop_at_entry (entries trip) first.0 (p.first, p.one) first.1;
      at_later = stop_at_entry (entries trip) later.0 (p.later, p.other) later.1 ∙ ap Some (sym p.same);
    })
  where
    before : (i j : ℕ) → slice_get (entries trip) i ≡ Some (p.first, p.one) → slice_get (entries trip) j ≡ Some (p.later, p.other) → i < j
    before i j at_i at_j = by (nat_cmp i j) refl
      where
        by : (r : Ordering) → nat_cmp i j ≡ r → i < j
        by Less is = grind (arith, nat_tests, is)
        by Equal is =
            let here : i ≡ j = nat_cmp-IsAntisymmetric i j is in
            let one : p.first ≡ p.later = ap (λ o. unwrap_or (option_map (λ e. e.0) o) 0) (sym at_i ∙ ap (slice_get (entries trip)) here ∙ at_j) in
            absurd (omega (arith, one, p.earlier))
        by Greater is =
            let after : j < i = grind (arith, nat_tests, is) in
            let wrong = keys_rise (entries trip) j i (p.later, p.other) (p.first, p.one) (sorted trip) after at_j at_i in
            absurd (omega (arith, wrong, p.earlier))

-- ---- numbers of stops, and their ids

or_get : (ids : List Text) (n : ℕ) → unwrap_or (slice_get ids n) [] ≡ get_or ids n []
or_get [] n = refl
or_get (x ∷ ids) zero = refl
or_get (x ∷ ids) (suc n) = or_get ids n

one_number : (ids : List Text) (m n : ℕ) → IsDistinct bytes_eq ids → m < length ids → n < length ids → get_or ids m [] ≡ get_or ids n [] → m ≡ n
one_number ids m n distinct m_in n_in same = by (nat_cmp m n) refl
  where
    apart : (i j : ℕ) → i < j → j < length ids → get_or ids i [] ≡ get_or ids j [] → ⊥
    apart i j lt within one =
        let laws = nat_list_eq_equiv in
        cc (sym (laws.refl (get_or ids i [])) ∙ ap (bytes_eq (get_or ids i [])) one ∙ apart_from_distinct bytes_eq ids i j [] distinct lt within)

    by : (r : Ordering) → nat_cmp m n ≡ r → m ≡ n
    by Less is = absurd (apart m n (grind (arith, nat_tests, is)) n_in same)
    by Equal is = nat_cmp-IsAntisymmetric m n is
    by Greater is = absurd (apart n m (grind (arith, nat_tests, is)) m_in (sym same))

time_at : (table : StopTable) (id : Text) (q : ℕ) → get (trip_times table id) q ≡ stop_time_at table.times id q
time_at table id q = by (get table.times id)
  where
    by : (o : Option BySequence) → get (unwrap_or o empty) q ≡ option_and_then (λ trip. get trip q) o
    by None = get-empty nat_cmp q
    by (Some trip) = refl

mapped : {X Y : Type 0} (f : X → Y) (o : Option X) (y : Y) → option_map f o ≡ Some y → (x : X) × (o ≡ Some x) × (f x ≡ y)
mapped f None y h = cc h
mapped f (Some x) y h = (x, refl, cc h)

-- a trip of a table visits a stop twice exactly where two of its visits have one stop id
pub tells_returns : (table : StopTable) (rows : List (Row Visit)) (id : Text) → HoldsVisits table rows → IsTrue (visits_twice (trip_times table id)) ↔ StopsTwice table id
tells_returns table rows id holds = (there, back)
  where
    stop_id : StopTime → Text
    stop_id t = unwrap_or (slice_get table.stops t.stop) []

    there : IsTrue (visits_twice (trip_times table id)) → StopsTwice table id
    there h =
        let p = pair (trip_times table id) h in
        record {
          first = p.first;
          later = p.later;
          one = visit_of table.stops p.one;
          other = visit_of table.stops p.other;
          earlier = p.earlier;
          at_first = ap (option_map (visit_of table.stops)) (sym (time_at table id p.first) ∙ p.at_first);
          at_later = ap (option_map (visit_of table.stops)) (sym (time_at table id p.later) ∙ p.at_later);
          same = ap (λ n. unwrap_or (slice_get table.stops n) []) p.same;
        }

    back : StopsTwice table id → IsTrue (visits_twice (trip_times table id))
    back t =
        let first = mapped (visit_of table.stops) (stop_time_at table.times id t.first) t.one t.at_first in
        let later = mapped (visit_of table.stops) (stop_time_at table.times id t.later) t.other t.at_later in
        let ids : stop_id first.0 ≡ stop_id later.0 = ap (λ v. v.stop) first.2 ∙ t.same ∙ sym (ap (λ v. v.stop) later.2) in
        twice_if_pair (trip_times table id) (record {
          first = t.first;
          later = t.later;
          one = first.0;
          other = later.0;
          earlier = t.earlier;
          at_first = time_at table id t.first ∙ first.1;
          at_later = time_at table id t.later ∙ later.1;
          same = one_number table.stops first.0.stop later.0.stop holds.distinct (holds.stops id t.first first.0 first.1) (holds.stops id t.later later.0 later.1)
              (sym (or_get table.stops first.0.stop) ∙ ids ∙ or_get table.stops later.0.stop);
        })
