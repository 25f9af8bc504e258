-- Two timetables answer alike of what is the same in both.
use Rattle.std.proofs.Common.{◌≡◌, ◌&&◌, ℕ, true, List, [], Some, refl, ap, ◌∙◌}
use Rattle.std.specs.Prelude.{option_map, slice_get, is_some, bytes_eq}
use Rattle.std.specs.List.{IsDistinct}
use Rattle.std.specs.FinMap.{entries, get, find}
use Rattle.std.specs.Ordering.{nat_cmp}
use Rattle.std.proofs.lemmas.Bool.{and_parts}
use Rattle.feed_values.specs.Cells.{text_cell}
use Rattle.feed_values.specs.declared.slot.Slot.{Slot}
use Rattle.feed_values.specs.declared.slot.Slot.TheVariants.{S38}
use Rattle.rt_day.specs.Time.{time_of}
use Rattle.timetable.specs.Maps.{Text}
use Rattle.timetable.specs.Stops.{stop_time_at}
use Rattle.timetable.specs.Timetables.{Tables, trip_times, visits_twice}
use Rattle.timetable.specs.declared.StopTime.{StopTime}
use Rattle.timetable.specs.declared.Frequency.{Frequency}
use Rattle.rule_table.specs.declared.ask.Ask.TheVariants as ask
use Rattle.rule_table.specs.Asked.{event_ask}
use Rattle.rule_history.specs.Answered.{yes, natural_cell, table_answer, trip_known, frequencies_of, exact_number, is_on_grid, first_time, time_at}
use Rattle.timetable_agree.specs.Alike.{alike, same_visit, same_trip, same_times, same_frequencies, same_route, same_agency, same_stop, frequencies_in}
use Rattle.timetable_agree.proofs.Calls.{number_is, truth_is, SameRow, row_is, gate, gate_list, gate_test, frequencies_are, same_arrival, same_departure, same_stop_text, found_alike, first_alike, returns_alike, time_in}

module _ (a b : Tables) (once_a : IsDistinct bytes_eq a.stop_times.stops) (once_b : IsDistinct bytes_eq b.stop_times.stops) where
  module _ (id : Text) (same : same_trip a b id ≡ true) where
    row : SameRow (get a.trips id) (get b.trips id) (same_frequencies a b id && same_times a b id)
    row = row_is (get a.trips id) (get b.trips id) (same_frequencies a b id) (same_times a b id) same

    known : trip_known a id ≡ trip_known b id
    known = row.known

    times : trip_known a id ≡ true → same_times a b id ≡ true
    times e = (and_parts (same_frequencies a b id) (same_times a b id) (row.inside e)).1

    rows : trip_known a id ≡ true → frequencies_in a id ≡ frequencies_in b id
    rows e = frequencies_are (frequencies_in a id) (frequencies_in b id) (and_parts (same_frequencies a b id) (same_times a b id) (row.inside e)).0

    rows_same : frequencies_of a id ≡ frequencies_of b id
    rows_same = gate_list (trip_known a id) (trip_known b id) (get a.frequencies id) (get b.frequencies id) known rows

    at_same : (n : ℕ) → alike (same_visit a.stop_times.stops b.stop_times.stops) (time_at a id n) (time_at b id n) ≡ true
    at_same n =
        gate (same_visit a.stop_times.stops b.stop_times.stops) (trip_known a id) (trip_known b id) (stop_time_at a.stop_times.times id n) (stop_time_at b.stop_times.times id n) known (λ e.
        ap (λ o. alike (same_visit a.stop_times.stops b.stop_times.stops) o (stop_time_at b.stop_times.times id n)) (time_in a.stop_times id n)
        ∙ ap (λ o. alike (same_visit a.stop_times.stops b.stop_times.stops) (find nat_cmp n (entries (trip_times a.stop_times id))) o) (time_in b.stop_times id n)
        ∙ found_alike a.stop_times.stops b.stop_times.stops n (entries (trip_times a.stop_times id)) (entries (trip_times b.stop_times id)) (times e))

    first_same : alike (same_visit a.stop_times.stops b.stop_times.stops) (first_time a id) (first_time b id) ≡ true
    first_same =
        gate (same_visit a.stop_times.stops b.stop_times.stops) (trip_known a id) (trip_known b id)
        (option_map (λ (e : ℕ × StopTime). e.1) (slice_get (entries (trip_times a.stop_times id)) 0)) (option_map (λ (e : ℕ × StopTime). e.1) (slice_get (entries (trip_times b.stop_times id)) 0)) known
        (λ e. first_alike a.stop_times.stops b.stop_times.stops (entries (trip_times a.stop_times id)) (entries (trip_times b.stop_times id)) (times e))

    returns_same : trip_known a id ≡ true → visits_twice (trip_times a.stop_times id) ≡ visits_twice (trip_times b.stop_times id)
    returns_same e =
        returns_alike a.stop_times.stops b.stop_times.stops once_a once_b [] [] (entries (trip_times a.stop_times id)) (entries (trip_times b.stop_times id)) refl (times e)

    pub known_alike : table_answer a (ask.TripKnown id) ≡ table_answer b (ask.TripKnown id)
    known_alike = ap (λ k. Some (yes k)) known

    pub route_alike : table_answer a (ask.TripRoute id) ≡ table_answer b (ask.TripRoute id)
    route_alike = ap (λ o. Some (text_cell o)) row.route

    pub direction_alike : table_answer a (ask.TripDirection id) ≡ table_answer b (ask.TripDirection id)
    direction_alike = ap (λ o. Some (natural_cell o)) row.direction

    pub exact_alike : table_answer a (ask.TripExact id) ≡ table_answer b (ask.TripExact id)
    exact_alike = ap (λ (fs : List Frequency). Some (natural_cell (option_map exact_number (slice_get fs 0)))) rows_same

    pub grid_alike : (text : Text) → table_answer a (ask.OnGrid id text) ≡ table_answer b (ask.OnGrid id text)
    grid_alike text = ap (λ (fs : List Frequency). Some (yes (is_on_grid fs (time_of text)))) rows_same

    pub twice_alike : table_answer a (ask.VisitsTwice id) ≡ table_answer b (ask.VisitsTwice id)
    twice_alike = ap (λ k. Some (yes k)) (gate_test (trip_known a id) (trip_known b id) (visits_twice (trip_times a.stop_times id)) (visits_twice (trip_times b.stop_times id)) known returns_same)

    pub first_arrival_alike : table_answer a (ask.FirstArrival id) ≡ table_answer b (ask.FirstArrival id)
    first_arrival_alike = ap (λ o. Some (natural_cell o)) (same_arrival a.stop_times.stops b.stop_times.stops (first_time a id) (first_time b id) first_same)

    pub stop_alike : (n : ℕ) → table_answer a (ask.StopAt id n) ≡ table_answer b (ask.StopAt id n)
    stop_alike n = ap (λ o. Some (text_cell o)) (same_stop_text a.stop_times.stops b.stop_times.stops (time_at a id n) (time_at b id n) (at_same n))

    arrival_alike : (n : ℕ) → table_answer a (ask.ArrivalAt id n) ≡ table_answer b (ask.ArrivalAt id n)
    arrival_alike n = ap (λ o. Some (natural_cell o)) (same_arrival a.stop_times.stops b.stop_times.stops (time_at a id n) (time_at b id n) (at_same n))

    departure_alike : (n : ℕ) → table_answer a (ask.DepartureAt id n) ≡ table_answer b (ask.DepartureAt id n)
    departure_alike n = ap (λ o. Some (natural_cell o)) (same_departure a.stop_times.stops b.stop_times.stops (time_at a id n) (time_at b id n) (at_same n))

    pub event_alike : (s : Slot) (n : ℕ) → table_answer a (event_ask s id n) ≡ table_answer b (event_ask s id n)
    event_alike S38 n = departure_alike n
    event_alike _ n = arrival_alike n

-- ---- a route, an agency and a stop
pub route_known_alike : (a b : Tables) (id : Text) → same_route a b id ≡ true → table_answer a (ask.RouteKnown id) ≡ table_answer b (ask.RouteKnown id)
route_known_alike a b id same = ap (λ k. Some (yes k)) (truth_is (is_some (get a.routes id)) (is_some (get b.routes id)) same)

pub agency_known_alike : (a b : Tables) (id : Text) → same_agency a b id ≡ true → table_answer a (ask.AgencyKnown id) ≡ table_answer b (ask.AgencyKnown id)
agency_known_alike a b id same = ap (λ k. Some (yes k)) (truth_is (is_some (get a.agencies id)) (is_some (get b.agencies id)) same)

pub stop_kind_alike : (a b : Tables) (id : Text) → same_stop a b id ≡ true → table_answer a (ask.StopKind id) ≡ table_answer b (ask.StopKind id)
stop_kind_alike a b id same =
    ap (λ k. Some (natural_cell k)) (number_is (option_map (λ only. only.item.kind) (get a.stops id)) (option_map (λ only. only.item.kind) (get b.stops id)) same)
