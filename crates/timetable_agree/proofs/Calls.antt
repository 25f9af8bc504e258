-- What a timetable answers of a trip that is the same in another.
use Rattle.std.proofs.Common.{◌≡◌, ◌<◌, ◌==◌, ◌||◌, ◌&&◌, ◌++◌, ℕ, zero, suc, Bool, true, false, cond, List, [], ◌∷◌, length, get_or, map, Option, Some, None, Less, Equal, Greater, Ordering, refl, sym, ap, subst, ◌∙◌, arith, eq-eqb}
use Rattle.std.specs.Prelude.{option_map, option_and_then, unwrap_or, slice_get, is_some, bytes_eq}
use Rattle.std.specs.List.{IsDistinct, list_any}
use Rattle.std.specs.Cmp.Lexicographic.{pointwise}
use Rattle.std.specs.FinMap.{empty, entries, get, get-empty, get-entries, nat_cmp-IsAntisymmetric}
use Rattle.std.specs.FinMap.{find}
use Rattle.std.specs.Ordering.{nat_cmp, eq_by_cmp}
use Rattle.std.proofs.lemmas.Bool.{and_parts}
use Rattle.std.proofs.lemmas.Bool.Decides.{nat_tests}
use Rattle.std.proofs.lemmas.Cmp.{nat_list_eq_equiv}
use Rattle.std.proofs.lemmas.Map.Keys.{apart_from_distinct}
use Rattle.std.proofs.lemmas.Option.{same_Some}
use Rattle.std.proofs.lemmas.Slice.Eq.{bytes_eq-Decides}
use borrow.Author.Tests.{eqb-true}
use Rattle.timetable.specs.Maps.{Text}
use Rattle.timetable.specs.Stops.{StopTable, stop_time_at}
use Rattle.timetable.specs.Times.{BySequence}
use Rattle.timetable.specs.Timetables.{returns_to, trip_times}
use Rattle.timetable.specs.declared.Frequency.{Frequency}
use Rattle.timetable.specs.declared.Only.{Only}
use Rattle.timetable.specs.declared.StopTime.{StopTime}
use Rattle.timetable.specs.declared.Trip.{Trip}
use Rattle.timetable_agree.specs.Alike.{alike, same_number, same_truth, same_stop_id, same_visit, same_entry, same_frequency, same_row}

-- ---- values that are compared
pub number_is : (a b : Option ℕ) → same_number a b ≡ true → a ≡ b
number_is None None h = refl
number_is None (Some y) h = absurd cc
number_is (Some x) None h = absurd cc
number_is (Some x) (Some y) h = ap (λ n. let o : Option ℕ = Some n in o) (eqb-true x y h)

pub truth_is : (a b : Bool) → same_truth a b ≡ true → a ≡ b
truth_is true b h = sym h
truth_is false true h = absurd cc
truth_is false false h = refl

pub bytes_are : (a b : Text) → bytes_eq a b ≡ true → a ≡ b
bytes_are a b h = (bytes_eq-Decides a b).0 h

-- ---- a trip's row
pub record SameRow (oa ob : Option (Only Trip)) (inner : Bool) : Type 0 where
  pub known : is_some oa ≡ is_some ob
  pub route : option_map (λ (row : Trip). row.route) (option_map (λ (only : Only Trip). only.item) oa) ≡ option_map (λ (row : Trip). row.route) (option_map (λ (only : Only Trip). only.item) ob)
  pub direction : option_and_then (λ (row : Trip). row.direction) (option_map (λ (only : Only Trip). only.item) oa) ≡ option_and_then (λ (row : Trip). row.direction) (option_map (λ (only : Only Trip). only.item) ob)
  pub inside : is_some oa ≡ true → inner ≡ true

pub row_is : (oa ob : Option (Only Trip)) (frequencies times : Bool)
    → alike (λ x y. same_row x y && frequencies && times) (option_map (λ (only : Only Trip). only.item) oa) (option_map (λ (only : Only Trip). only.item) ob) ≡ true
    → SameRow oa ob (frequencies && times)
row_is None None frequencies times h = record { known = refl; route = refl; direction = refl; inside = λ e. absurd cc }
row_is None (Some y) frequencies times h = absurd cc
row_is (Some x) None frequencies times h = absurd cc
row_is (Some x) (Some y) frequencies times h =
    let outer = and_parts (same_row x.item y.item && frequencies) times h in
    let inner = and_parts (same_row x.item y.item) frequencies outer.0 in
    let row = and_parts (bytes_eq x.item.route y.item.route) (same_number x.item.direction y.item.direction) inner.0 in
    record {
      known = refl;
      route = ap (λ t. let o : Option Text = Some t in o) (bytes_are x.item.route y.item.route row.0);
      direction = number_is x.item.direction y.item.direction row.1;
      inside = λ e. ap (λ b. b && times) inner.1 ∙ outer.1;
    }

-- ---- what only a known trip has
pub gate : {A : Type 0} (same : A → A → Bool) (ka kb : Bool) (o p : Option A) → ka ≡ kb → (ka ≡ true → alike same o p ≡ true) → alike same (cond ka o None) (cond kb p None) ≡ true
gate same true true o p k h = h refl
gate same true false o p k h = absurd cc
gate same false true o p k h = absurd cc
gate same false false o p k h = refl

pub gate_list : {A : Type 0} (ka kb : Bool) (o p : Option (List A)) → ka ≡ kb → (ka ≡ true → unwrap_or o [] ≡ unwrap_or p []) → unwrap_or (cond ka o None) [] ≡ unwrap_or (cond kb p None) []
gate_list true true o p k h = h refl
gate_list true false o p k h = absurd cc
gate_list false true o p k h = absurd cc
gate_list false false o p k h = refl

pub gate_test : (ka kb va vb : Bool) → ka ≡ kb → (ka ≡ true → va ≡ vb) → (ka && va) ≡ (kb && vb)
gate_test true true va vb k h = h refl
gate_test true false va vb k h = absurd cc
gate_test false true va vb k h = absurd cc
gate_test false false va vb k h = refl

-- ---- frequencies
frequency_is : (x y : Frequency) → same_frequency x y ≡ true → x ≡ y
frequency_is x y h =
    let a = and_parts ((x.start == y.start) && (x.end == y.end) && (x.headway == y.headway)) (same_truth x.exact y.exact) h in
    let b = and_parts ((x.start == y.start) && (x.end == y.end)) (x.headway == y.headway) a.0 in
    let d = and_parts (x.start == y.start) (x.end == y.end) b.0 in
    let start = eqb-true x.start y.start d.0 in
    let end = eqb-true x.end y.end d.1 in
    let headway = eqb-true x.headway y.headway b.1 in
    let exact = truth_is x.exact y.exact a.1 in
    λ i. record { start = start i; end = end i; headway = headway i; exact = exact i }

pub frequencies_are : (xs ys : List Frequency) → pointwise same_frequency xs ys ≡ true → xs ≡ ys
frequencies_are [] [] h = refl
frequencies_are [] (y ∷ ys) h = absurd cc
frequencies_are (x ∷ xs) [] h = absurd cc
frequencies_are (x ∷ xs) (y ∷ ys) h =
    let e = and_parts (same_frequency x y) (pointwise same_frequency xs ys) h in
    let same = frequency_is x y e.0 in
    let others = frequencies_are xs ys e.1 in
    λ i. same i ∷ others i

-- ---- stop times
module _ (olds news : List Text) where
  record SameVisit (x y : StopTime) : Type 0 where
    stop : slice_get olds x.stop ≡ slice_get news y.stop
    arrival : x.arrival ≡ y.arrival
    departure : x.departure ≡ y.departure

  id_is : (o p : Option Text) → same_stop_id o p ≡ true → o ≡ p
  id_is None p h = absurd cc
  id_is (Some x) None h = absurd cc
  id_is (Some x) (Some y) h = ap (λ t. let o : Option Text = Some t in o) (bytes_are x y h)

  visit_is : (x y : StopTime) → same_visit olds news x y ≡ true → SameVisit x y
  visit_is x y h =
      let a = and_parts (same_stop_id (slice_get olds x.stop) (slice_get news y.stop) && same_number x.arrival y.arrival) (same_number x.departure y.departure) h in
      let b = and_parts (same_stop_id (slice_get olds x.stop) (slice_get news y.stop)) (same_number x.arrival y.arrival) a.0 in
      record { stop = id_is (slice_get olds x.stop) (slice_get news y.stop) b.0; arrival = number_is x.arrival y.arrival b.1; departure = number_is x.departure y.departure a.1 }

  pub same_arrival : (o p : Option StopTime) → alike (same_visit olds news) o p ≡ true → option_and_then (λ (t : StopTime). t.arrival) o ≡ option_and_then (λ (t : StopTime). t.arrival) p
  same_arrival None None h = refl
  same_arrival None (Some y) h = absurd cc
  same_arrival (Some x) None h = absurd cc
  same_arrival (Some x) (Some y) h = (visit_is x y h).arrival

  pub same_departure : (o p : Option StopTime) → alike (same_visit olds news) o p ≡ true → option_and_then (λ (t : StopTime). t.departure) o ≡ option_and_then (λ (t : StopTime). t.departure) p
  same_departure None None h = refl
  same_departure None (Some y) h = absurd cc
  same_departure (Some x) None h = absurd cc
  same_departure (Some x) (Some y) h = (visit_is x y h).departure

  pub same_stop_text : (o p : Option StopTime) → alike (same_visit olds news) o p ≡ true → option_and_then (λ (t : StopTime). slice_get olds t.stop) o ≡ option_and_then (λ (t : StopTime). slice_get news t.stop) p
  same_stop_text None None h = refl
  same_stop_text None (Some y) h = absurd cc
  same_stop_text (Some x) None h = absurd cc
  same_stop_text (Some x) (Some y) h = (visit_is x y h).stop

  entry_is : (x y : ℕ × StopTime) → same_entry olds news x y ≡ true → (x.0 ≡ y.0) × (same_visit olds news x.1 y.1 ≡ true)
  entry_is x y h = let e = and_parts (x.0 == y.0) (same_visit olds news x.1 y.1) h in (eqb-true x.0 y.0 e.0, e.1)

  pub found_alike : (n : ℕ) (xs ys : List (ℕ × StopTime)) → pointwise (same_entry olds news) xs ys ≡ true → alike (same_visit olds news) (find nat_cmp n xs) (find nat_cmp n ys) ≡ true
  found_alike n [] [] h = refl
  found_alike n [] (y ∷ ys) h = absurd cc
  found_alike n (x ∷ xs) [] h = absurd cc
  found_alike n (x ∷ xs) (y ∷ ys) h =
      let e = and_parts (same_entry olds news x y) (pointwise (same_entry olds news) xs ys) h in
      let here = entry_is x y e.0 in
      subst (λ k. alike (same_visit olds news) (cond (eq_by_cmp nat_cmp n x.0) (Some x.1) (find nat_cmp n xs)) (cond (eq_by_cmp nat_cmp n k) (Some y.1) (find nat_cmp n ys)) ≡ true) here.0
      (either (eq_by_cmp nat_cmp n x.0) here.1 (found_alike n xs ys e.1))
    where
      either : (b : Bool) → same_visit olds news x.1 y.1 ≡ true → alike (same_visit olds news) (find nat_cmp n xs) (find nat_cmp n ys) ≡ true
          → alike (same_visit olds news) (cond b (Some x.1) (find nat_cmp n xs)) (cond b (Some y.1) (find nat_cmp n ys)) ≡ true
      either true here later = here
      either false here later = later

  pub first_alike : (xs ys : List (ℕ × StopTime)) → pointwise (same_entry olds news) xs ys ≡ true
      → alike (same_visit olds news) (option_map (λ (e : ℕ × StopTime). e.1) (slice_get xs 0)) (option_map (λ (e : ℕ × StopTime). e.1) (slice_get ys 0)) ≡ true
  first_alike [] [] h = refl
  first_alike [] (y ∷ ys) h = absurd cc
  first_alike (x ∷ xs) [] h = absurd cc
  first_alike (x ∷ xs) (y ∷ ys) h = (entry_is x y (and_parts (same_entry olds news x y) (pointwise (same_entry olds news) xs ys) h).0).1

-- two numbers of one id are one
get_text : (ids : List Text) (n : ℕ) (id : Text) → slice_get ids n ≡ Some id → (n < length ids) × (get_or ids n [] ≡ id)
get_text [] n id h = absurd cc
get_text (x ∷ xs) zero id h = let same : x ≡ id = cc in (omega arith, same)
get_text (x ∷ xs) (suc n) id h = let e = get_text xs n id h in let small = e.0 in (omega (arith, small), e.1)

one_number : (ids : List Text) (m n : ℕ) (id : Text) → IsDistinct bytes_eq ids → slice_get ids m ≡ Some id → slice_get ids n ≡ Some id → m ≡ n
one_number ids m n id distinct at_m at_n = by (nat_cmp m n) refl
  where
    apart : (i j : ℕ) → i < j → slice_get ids i ≡ Some id → slice_get ids j ≡ Some id → ⊥
    apart i j lt at_i at_j =
        let one = get_text ids i id at_i in
        let other = get_text ids j id at_j in
        let laws = nat_list_eq_equiv in
        let same : get_or ids i [] ≡ get_or ids j [] = one.1 ∙ sym other.1 in
        cc (sym (laws.refl (get_or ids i [])) ∙ ap (bytes_eq (get_or ids i [])) same ∙ apart_from_distinct bytes_eq ids i j [] distinct lt other.0)

    by : (r : Ordering) → nat_cmp m n ≡ r → m ≡ n
    by Less is = absurd (apart m n (grind (arith, nat_tests, is)) at_m at_n)
    by Equal is = nat_cmp-IsAntisymmetric m n is
    by Greater is = absurd (apart n m (grind (arith, nat_tests, is)) at_n at_m)

same_tests : (p r q s : ℕ) → (p ≡ r → q ≡ s) → (q ≡ s → p ≡ r) → (p == r) ≡ (q == s)
same_tests p r q s f g = by (p == r) refl (q == s) refl
  where
    by : (b : Bool) → (p == r) ≡ b → (c : Bool) → (q == s) ≡ c → (p == r) ≡ (q == s)
    by true e true h = e ∙ sym h
    by true e false h = let one = eq-eqb q s (f (eqb-true p r e)) in absurd cc
    by false e true h = let one = eq-eqb p r (g (eqb-true q s h)) in absurd cc
    by false e false h = e ∙ sym h

module _ (olds news : List Text) (old_once : IsDistinct bytes_eq olds) (new_once : IsDistinct bytes_eq news) where
  abbrev SamePlace : ℕ → ℕ → Bool
  SamePlace p q = same_stop_id (slice_get olds p) (slice_get news q)

  record Both (p q : ℕ) : Type 0 where
    id : Text
    old : slice_get olds p ≡ Some id
    new : slice_get news q ≡ Some id

  both_of : (p q : ℕ) (o r : Option Text) → slice_get olds p ≡ o → slice_get news q ≡ r → same_stop_id o r ≡ true → Both p q
  both_of p q None r a b h = absurd cc
  both_of p q (Some x) None a b h = absurd cc
  both_of p q (Some x) (Some y) a b h = let same : y ≡ x = sym (bytes_are x y h) in record { id = x; old = a; new = b ∙ ap (λ t. let o : Option Text = Some t in o) same }

  places_alike : (p r q s : ℕ) → SamePlace p q ≡ true → SamePlace r s ≡ true → (p == r) ≡ (q == s)
  places_alike p r q s h k =
      let one = both_of p q (slice_get olds p) (slice_get news q) refl refl h in
      let two = both_of r s (slice_get olds r) (slice_get news s) refl refl k in
      same_tests p r q s
      (λ e. let same : one.id ≡ two.id = same_Some one.id two.id (sym one.old ∙ ap (slice_get olds) e ∙ two.old) in one_number news q s two.id new_once (one.new ∙ ap (λ t. let o : Option Text = Some t in o) same) two.new)
      (λ e. let same : one.id ≡ two.id = same_Some one.id two.id (sym one.new ∙ ap (slice_get news) e ∙ two.new) in one_number olds p r two.id old_once (one.old ∙ ap (λ t. let o : Option Text = Some t in o) same) two.old)

  any_alike : (p q : ℕ) (ps qs : List ℕ) → SamePlace p q ≡ true → pointwise SamePlace ps qs ≡ true → list_any (λ stop. p == stop) ps ≡ list_any (λ stop. q == stop) qs
  any_alike p q [] [] h k = refl
  any_alike p q [] (s ∷ qs) h k = absurd cc
  any_alike p q (r ∷ ps) [] h k = absurd cc
  any_alike p q (r ∷ ps) (s ∷ qs) h k =
      let e = and_parts (SamePlace r s) (pointwise SamePlace ps qs) k in
      ap (λ b. b || list_any (λ stop. p == stop) ps) (places_alike p r q s h e.0) ∙ ap (λ b. (q == s) || b) (any_alike p q ps qs h e.1)

  one_more : (p q : ℕ) (ps qs : List ℕ) → SamePlace p q ≡ true → pointwise SamePlace ps qs ≡ true → pointwise SamePlace (ps ++ p ∷ []) (qs ++ q ∷ []) ≡ true
  one_more p q [] [] h k = ap (λ b. b && true) h
  one_more p q [] (s ∷ qs) h k = absurd cc
  one_more p q (r ∷ ps) [] h k = absurd cc
  one_more p q (r ∷ ps) (s ∷ qs) h k =
      let e = and_parts (SamePlace r s) (pointwise SamePlace ps qs) k in
      ap (λ b. b && pointwise SamePlace (ps ++ p ∷ []) (qs ++ q ∷ [])) e.0 ∙ one_more p q ps qs h e.1

  pub returns_alike : (ps qs : List ℕ) (xs ys : List (ℕ × StopTime)) → pointwise SamePlace ps qs ≡ true → pointwise (same_entry olds news) xs ys ≡ true
      → returns_to ps (map (λ (e : ℕ × StopTime). e.1) xs) ≡ returns_to qs (map (λ (e : ℕ × StopTime). e.1) ys)
  returns_alike ps qs [] [] h k = refl
  returns_alike ps qs [] (y ∷ ys) h k = absurd cc
  returns_alike ps qs (x ∷ xs) [] h k = absurd cc
  returns_alike ps qs (x ∷ xs) (y ∷ ys) h k =
      let e = and_parts (same_entry olds news x y) (pointwise (same_entry olds news) xs ys) k in
      let visit = and_parts (x.0 == y.0) (same_visit olds news x.1 y.1) e.0 in
      let inner = and_parts (SamePlace x.1.stop y.1.stop && same_number x.1.arrival y.1.arrival) (same_number x.1.departure y.1.departure) visit.1 in
      let place = and_parts (SamePlace x.1.stop y.1.stop) (same_number x.1.arrival y.1.arrival) inner.0 in
      ap (λ b. b || returns_to (ps ++ x.1.stop ∷ []) (map (λ (e : ℕ × StopTime). e.1) xs)) (any_alike x.1.stop y.1.stop ps qs place.0 h)
      ∙ ap (λ b. list_any (λ stop. y.1.stop == stop) qs || b) (returns_alike (ps ++ x.1.stop ∷ []) (qs ++ y.1.stop ∷ []) xs ys (one_more x.1.stop y.1.stop ps qs place.0 h) e.1)

-- ---- a stop time by its sequence
pub time_in : (table : StopTable) (id : Text) (n : ℕ) → stop_time_at table.times id n ≡ find nat_cmp n (entries (trip_times table id))
time_in table id n = by (get table.times id) ∙ get-entries (trip_times table id) n
  where
    by : (o : Option BySequence) → option_and_then (λ trip. get trip n) o ≡ get (unwrap_or o empty) n
    by None = sym (get-empty nat_cmp n)
    by (Some trip) = refl
