-- That two timetables agree, read as sets.
use Rattle.std.proofs.Common.{◌≡◌, ◌==◌, ◌&&◌, ℕ, suc, Bool, true, false, List, [], ◌∷◌, Option, Some, None, refl, sym, ap, ◌∙◌, eq-eqb}
use Rattle.std.specs.Prelude.{option_map, slice_get, is_some, bytes_eq}
use Rattle.std.specs.List.{AllZip, list_all}
use Rattle.std.specs.Cmp.Lexicographic.{pointwise}
use Rattle.std.specs.FinMap.{entries, get}
use Rattle.std.proofs.lemmas.Bool.{and_parts, and_from}
use Rattle.std.proofs.lemmas.Option.{same_Some}
use Rattle.std.proofs.lemmas.Slice.Eq.{bytes_eq-Decides}
use borrow.Author.Tests.{eqb-true}
use Rattle.feed_values.specs.Schema.{Value}
use Rattle.feed_values.specs.Messages.{entity}
use Rattle.timetable.specs.Maps.{Text}
use Rattle.timetable.specs.Timetables.{Tables, kind_in, trip_times}
use Rattle.timetable.specs.declared.Frequency.{Frequency}
use Rattle.timetable.specs.declared.StopTime.{StopTime}
use Rattle.timetable.specs.declared.Trip.{Trip}
use Rattle.timetable_agree.specs.Alike.{alike, same_number, same_truth, same_stop_id, same_visit, same_entry, same_frequency, same_frequencies, same_times, same_row, same_trip, same_route, same_stop, same_agency, frequencies_in, trip_in}
use Rattle.timetable_agree.specs.Agree.{Agree, AgreeReadsAsSets, SameCourse, SameEntry, SameTrip, if_given, same_named_trip, same_others, tables_agree}
use Rattle.timetable_agree.specs.Named.{Naming, namings}
use Rattle.timetable_agree.proofs.Calls.{bytes_are, frequencies_are, number_is, truth_is}
use Rattle.timetable_agree.proofs.Cells.{all_at, given_is, others_are}

-- ---- values that are the same
same_numbers : (a b : Option ℕ) → a ≡ b → same_number a b ≡ true
same_numbers None None h = refl
same_numbers None (Some y) h = absurd cc
same_numbers (Some x) None h = absurd cc
same_numbers (Some x) (Some y) h = eq-eqb x y (same_Some x y h)

same_truths : (a b : Bool) → a ≡ b → same_truth a b ≡ true
same_truths true b h = sym h
same_truths false true h = absurd cc
same_truths false false h = refl

same_bytes : (a b : Text) → a ≡ b → bytes_eq a b ≡ true
same_bytes a b h = (bytes_eq-Decides a b).1 h

-- ---- frequencies
same_rows : (xs : List Frequency) → pointwise same_frequency xs xs ≡ true
same_rows [] = refl
same_rows (x ∷ xs) =
    let start = eq-eqb x.start x.start refl in
    let end = eq-eqb x.end x.end refl in
    let headway = eq-eqb x.headway x.headway refl in
    and_from (same_frequency x x) (pointwise same_frequency xs xs)
    (and_from ((x.start == x.start) && (x.end == x.end) && (x.headway == x.headway)) (same_truth x.exact x.exact)
    (and_from ((x.start == x.start) && (x.end == x.end)) (x.headway == x.headway) (and_from (x.start == x.start) (x.end == x.end) start end) headway)
    (same_truths x.exact x.exact refl)) (same_rows xs)

-- ---- stop times
module _ (olds news : List Text) where
  stop_is : (o p : Option Text) → same_stop_id o p ≡ true → (id : Text) × (o ≡ Some id) × (p ≡ Some id)
  stop_is None p h = absurd cc
  stop_is (Some x) None h = absurd cc
  stop_is (Some x) (Some y) h = let same : y ≡ x = sym (bytes_are x y h) in (x, refl, ap (λ t. let o : Option Text = Some t in o) same)

  stop_same : (o p : Option Text) (id : Text) → o ≡ Some id → p ≡ Some id → same_stop_id o p ≡ true
  stop_same None p id h k = absurd cc
  stop_same (Some x) None id h k = absurd cc
  stop_same (Some x) (Some y) id h k = same_bytes x y (same_Some x id h ∙ sym (same_Some y id k))

  entry_is : (x y : ℕ × StopTime) → same_entry olds news x y ≡ true → SameEntry olds news x y
  entry_is x y h =
      let e = and_parts (x.0 == y.0) (same_visit olds news x.1 y.1) h in
      let a = and_parts (same_stop_id (slice_get olds x.1.stop) (slice_get news y.1.stop) && same_number x.1.arrival y.1.arrival) (same_number x.1.departure y.1.departure) e.1 in
      let b = and_parts (same_stop_id (slice_get olds x.1.stop) (slice_get news y.1.stop)) (same_number x.1.arrival y.1.arrival) a.0 in
      record {
        sequence = eqb-true x.0 y.0 e.0;
        stop = stop_is (slice_get olds x.1.stop) (slice_get news y.1.stop) b.0;
        arrival = number_is x.1.arrival y.1.arrival b.1;
        departure = number_is x.1.departure y.1.departure a.1;
      }

  entry_same : (x y : ℕ × StopTime) → SameEntry olds news x y → same_entry olds news x y ≡ true
  entry_same x y h =
      let stop = h.stop in
      and_from (x.0 == y.0) (same_visit olds news x.1 y.1) (eq-eqb x.0 y.0 h.sequence)
      (and_from (same_stop_id (slice_get olds x.1.stop) (slice_get news y.1.stop) && same_number x.1.arrival y.1.arrival) (same_number x.1.departure y.1.departure)
      (and_from (same_stop_id (slice_get olds x.1.stop) (slice_get news y.1.stop)) (same_number x.1.arrival y.1.arrival)
      (stop_same (slice_get olds x.1.stop) (slice_get news y.1.stop) stop.0 stop.1 stop.2) (same_numbers x.1.arrival y.1.arrival h.arrival))
      (same_numbers x.1.departure y.1.departure h.departure))

  entries_are : (xs ys : List (ℕ × StopTime)) → pointwise (same_entry olds news) xs ys ≡ true → AllZip (SameEntry olds news) xs ys
  entries_are [] [] h = tt
  entries_are [] (y ∷ ys) h = absurd cc
  entries_are (x ∷ xs) [] h = absurd cc
  entries_are (x ∷ xs) (y ∷ ys) h =
      let e = and_parts (same_entry olds news x y) (pointwise (same_entry olds news) xs ys) h in (entry_is x y e.0, entries_are xs ys e.1)

  entries_same : (xs ys : List (ℕ × StopTime)) → AllZip (SameEntry olds news) xs ys → pointwise (same_entry olds news) xs ys ≡ true
  entries_same [] [] h = refl
  entries_same [] (y ∷ ys) h = absurd h
  entries_same (x ∷ xs) [] h = absurd h
  entries_same (x ∷ xs) (y ∷ ys) h = and_from (same_entry olds news x y) (pointwise (same_entry olds news) xs ys) (entry_same x y h.0) (entries_same xs ys h.1)

-- ---- a trip
module _ (a b : Tables) (id : Text) where
  course_is : same_frequencies a b id ≡ true → same_times a b id ≡ true → SameCourse a b id
  course_is f t = record {
    frequencies = frequencies_are (frequencies_in a id) (frequencies_in b id) f;
    times = entries_are a.stop_times.stops b.stop_times.stops (entries (trip_times a.stop_times id)) (entries (trip_times b.stop_times id)) t;
  }

  course_same : SameCourse a b id → (same_frequencies a b id && same_times a b id) ≡ true
  course_same c =
      and_from (same_frequencies a b id) (same_times a b id)
      (ap (λ fs. pointwise same_frequency (frequencies_in a id) fs) (sym c.frequencies) ∙ same_rows (frequencies_in a id))
      (entries_same a.stop_times.stops b.stop_times.stops (entries (trip_times a.stop_times id)) (entries (trip_times b.stop_times id)) c.times)

  abbrev Said : Option Trip → Option Trip → Type 0
  Said o p =
      (option_map (λ (row : Trip). row.route) o ≡ option_map (λ (row : Trip). row.route) p)
      × (option_map (λ (row : Trip). row.direction) o ≡ option_map (λ (row : Trip). row.direction) p)
      × (is_some o ≡ true → SameCourse a b id)

  said_is : (o p : Option Trip) → alike (λ x y. same_row x y && same_frequencies a b id && same_times a b id) o p ≡ true → Said o p
  said_is None None h = (refl, refl, λ e. absurd cc)
  said_is None (Some y) h = absurd cc
  said_is (Some x) None h = absurd cc
  said_is (Some x) (Some y) h =
      let outer = and_parts (same_row x y && same_frequencies a b id) (same_times a b id) h in
      let inner = and_parts (same_row x y) (same_frequencies a b id) outer.0 in
      let row = and_parts (bytes_eq x.route y.route) (same_number x.direction y.direction) inner.0 in (
        ap (λ t. let o : Option Text = Some t in o) (bytes_are x.route y.route row.0),
        ap (λ t. let o : Option (Option ℕ) = Some t in o) (number_is x.direction y.direction row.1),
        λ e. course_is inner.1 outer.1,
      )

  said_same : (o p : Option Trip) → Said o p → alike (λ x y. same_row x y && same_frequencies a b id && same_times a b id) o p ≡ true
  said_same None None h = refl
  said_same None (Some y) h = let e = h.0 in absurd cc
  said_same (Some x) None h = let e = h.0 in absurd cc
  said_same (Some x) (Some y) h =
      let course = and_parts (same_frequencies a b id) (same_times a b id) (course_same (h.2 refl)) in
      let row = and_from (bytes_eq x.route y.route) (same_number x.direction y.direction)
      (same_bytes x.route y.route (same_Some x.route y.route h.0)) (same_numbers x.direction y.direction (same_Some x.direction y.direction h.1)) in
      and_from (same_row x y && same_frequencies a b id) (same_times a b id) (and_from (same_row x y) (same_frequencies a b id) row course.0) course.1

  trip_is : same_trip a b id ≡ true → SameTrip a b id
  trip_is h = let said = said_is (trip_in a id) (trip_in b id) h in record { route = said.0; direction = said.1; course = said.2 }

  trip_same : SameTrip a b id → same_trip a b id ≡ true
  trip_same h = said_same (trip_in a id) (trip_in b id) (h.route, h.direction, h.course)

-- ---- an entity
all_from : {A : Type 0} (p : A → Bool) (xs : List A) → ((i : ℕ) (x : A) → slice_get xs i ≡ Some x → p x ≡ true) → list_all p xs ≡ true
all_from p [] h = refl
all_from p (x ∷ xs) h = and_from (p x) (list_all p xs) (h 0 x refl) (all_from p xs (λ i y e. h (suc i) y e))

given_from : (test : Text → Bool) (o : Option Text) → ((id : Text) → o ≡ Some id → test id ≡ true) → if_given test o ≡ true
given_from test None h = refl
given_from test (Some id) h = h id refl

module _ (a b : Tables) (e : Value entity) where
  agree_is : tables_agree a b e ≡ true → Agree a b e
  agree_is h =
      let both = and_parts (list_all (same_named_trip a b) (namings e)) (list_all (same_others a b) (namings e)) h in
      let trip = λ (i : ℕ) (n : Naming) (there : slice_get (namings e) i ≡ Some n). all_at (same_named_trip a b) (namings e) i n both.0 there in
      let others = λ (i : ℕ) (n : Naming) (there : slice_get (namings e) i ≡ Some n). others_are a b n (all_at (same_others a b) (namings e) i n both.1 there) in
      record {
        trips = λ id g. trip_is a b id (given_is (same_trip a b) g.1.trip id (trip g.0 g.1 g.2) g.3);
        trip_routes = λ id g. truth_is (is_some (get a.routes id)) (is_some (get b.routes id)) (given_is (same_route a b) g.1.trip_route id (others g.0 g.1 g.2).trip_route g.3);
        routes = λ id g. truth_is (is_some (get a.routes id)) (is_some (get b.routes id)) (given_is (same_route a b) g.1.route id (others g.0 g.1 g.2).route g.3);
        stops = λ id g. number_is (kind_in a.stops id) (kind_in b.stops id) (given_is (same_stop a b) g.1.stop id (others g.0 g.1 g.2).stop g.3);
        assigned_stops = λ id g. number_is (kind_in a.stops id) (kind_in b.stops id) (given_is (same_stop a b) g.1.assigned_stop id (others g.0 g.1 g.2).assigned g.3);
        agencies = λ id g. truth_is (is_some (get a.agencies id)) (is_some (get b.agencies id)) (given_is (same_agency a b) g.1.agency id (others g.0 g.1 g.2).agency g.3);
      }

  others_same : Agree a b e → (i : ℕ) (n : Naming) → slice_get (namings e) i ≡ Some n → same_others a b n ≡ true
  others_same h i n there =
      let r = if_given (same_route a b) n.trip_route in
      let q = if_given (same_route a b) n.route in
      let s = if_given (same_stop a b) n.stop in
      let z = if_given (same_stop a b) n.assigned_stop in
      let g = if_given (same_agency a b) n.agency in
      and_from (r && q && s && z) g
      (and_from (r && q && s) z
      (and_from (r && q) s
      (and_from r q
      (given_from (same_route a b) n.trip_route (λ id is. same_truths (is_some (get a.routes id)) (is_some (get b.routes id)) (h.trip_routes id (i, n, there, is))))
      (given_from (same_route a b) n.route (λ id is. same_truths (is_some (get a.routes id)) (is_some (get b.routes id)) (h.routes id (i, n, there, is)))))
      (given_from (same_stop a b) n.stop (λ id is. same_numbers (kind_in a.stops id) (kind_in b.stops id) (h.stops id (i, n, there, is)))))
      (given_from (same_stop a b) n.assigned_stop (λ id is. same_numbers (kind_in a.stops id) (kind_in b.stops id) (h.assigned_stops id (i, n, there, is)))))
      (given_from (same_agency a b) n.agency (λ id is. same_truths (is_some (get a.agencies id)) (is_some (get b.agencies id)) (h.agencies id (i, n, there, is))))

  agree_same : Agree a b e → tables_agree a b e ≡ true
  agree_same h =
      and_from (list_all (same_named_trip a b) (namings e)) (list_all (same_others a b) (namings e))
      (all_from (same_named_trip a b) (namings e) (λ i n there. given_from (same_trip a b) n.trip (λ id is. trip_same a b id (h.trips id (i, n, there, is)))))
      (all_from (same_others a b) (namings e) (others_same h))

pub agree_reads_as_sets : AgreeReadsAsSets
agree_reads_as_sets a b e = (agree_is a b e, agree_same a b e)
