-- When two timetables say the same of an id.
-- (GTFS Schedule Reference, "trips.txt", "stop_times.txt", "frequencies.txt", "stops.txt", "routes.txt", "agency.txt".)
use Rattle.std.specs.Prelude.{ℕ, ◌==◌, Bool, true, false, ◌&&◌, List, [], Option, Some, None, option_map, is_some, slice_get, unwrap_or, bytes_eq}
use Rattle.std.specs.Cmp.Lexicographic.{pointwise}
use Rattle.std.specs.FinMap.{get, entries}
use Rattle.timetable.specs.Maps.{Text}
use Rattle.timetable.specs.Timetables.{Tables, kind_in, trip_times}
use Rattle.timetable.specs.declared.Frequency.{Frequency}
use Rattle.timetable.specs.declared.StopTime.{StopTime}
use Rattle.timetable.specs.declared.Trip.{Trip}

-- both are there and the same, or neither is there
abbrev pub alike : {A : Type 0} → (A → A → Bool) → Option A → Option A → Bool
alike same None None = true
alike same (Some x) (Some y) = same x y
alike same _ _ = false

abbrev pub same_number : Option ℕ → Option ℕ → Bool
same_number a b = alike ◌==◌ a b

abbrev pub same_truth : Bool → Bool → Bool
same_truth true b = b
same_truth false true = false
same_truth false false = true

-- ---- a trip
-- one stop id, by the two timetables' stops in the order of their numbers
abbrev pub same_stop_id : Option Text → Option Text → Bool
same_stop_id (Some x) (Some y) = bytes_eq x y
same_stop_id _ _ = false

-- one stop id, one arrival and one departure
abbrev pub same_visit : List Text → List Text → StopTime → StopTime → Bool
same_visit olds news x y = same_stop_id (slice_get olds x.stop) (slice_get news y.stop) && same_number x.arrival y.arrival && same_number x.departure y.departure

-- beside their sequences
abbrev pub same_entry : List Text → List Text → ℕ × StopTime → ℕ × StopTime → Bool
same_entry olds news x y = (x.0 == y.0) && same_visit olds news x.1 y.1

-- the same of stop times by themselves
abbrev pub same_stop_time : List Text → List Text → StopTime → StopTime → Bool
same_stop_time olds news x y = same_entry olds news (x.sequence, x) (y.sequence, y)

abbrev pub same_times : Tables → Tables → Text → Bool
same_times a b id = pointwise (same_entry a.stop_times.stops b.stop_times.stops) (entries (trip_times a.stop_times id)) (entries (trip_times b.stop_times id))

abbrev pub same_frequency : Frequency → Frequency → Bool
same_frequency x y = (x.start == y.start) && (x.end == y.end) && (x.headway == y.headway) && same_truth x.exact y.exact

-- the frequencies of a trip, in the order of the file
abbrev pub frequencies_in : Tables → Text → List Frequency
frequencies_in t id = unwrap_or (get t.frequencies id) []

abbrev pub same_frequencies : Tables → Tables → Text → Bool
same_frequencies a b id = pointwise same_frequency (frequencies_in a id) (frequencies_in b id)

-- one route and one direction
abbrev pub same_row : Trip → Trip → Bool
same_row x y = bytes_eq x.route y.route && same_number x.direction y.direction

abbrev pub trip_in : Tables → Text → Option Trip
trip_in t id = option_map (λ only. only.item) (get t.trips id)

-- unknown to both, or known to both with the same row, frequencies and stop times
abbrev pub same_trip : Tables → Tables → Text → Bool
same_trip a b id = alike (λ x y. same_row x y && same_frequencies a b id && same_times a b id) (trip_in a id) (trip_in b id)

-- ---- a route, an agency and a stop
abbrev pub same_route : Tables → Tables → Text → Bool
same_route a b id = same_truth (is_some (get a.routes id)) (is_some (get b.routes id))

abbrev pub same_agency : Tables → Tables → Text → Bool
same_agency a b id = same_truth (is_some (get a.agencies id)) (is_some (get b.agencies id))

-- unknown to both, or known to both with one location type
abbrev pub same_stop : Tables → Tables → Text → Bool
same_stop a b id = same_number (kind_in a.stops id) (kind_in b.stops id)
