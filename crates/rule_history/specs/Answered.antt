-- What asks are answered by a timetable, and after a history by all that answers.
-- (GTFS Schedule Reference, "agency.txt", "stops.txt", "routes.txt", "trips.txt", "stop_times.txt", "frequencies.txt"; which
-- asks there are is this profile's.)
use Rattle.std.specs.Prelude.{ℕ, ◌-◌, ◌%◌, ◌==◌, Bool, false, not, ◌&&◌, nat_le, List, [], Option, Some, None, option_map, option_and_then, unwrap_or, is_some, slice_get, bytes_eq, if◌then◌else◌}
use Rattle.std.specs.Option.{option_or}
use Rattle.std.specs.List.{list_any, flat_map, find}
use Rattle.std.specs.Cmp.Lexicographic.{pointwise}
use Rattle.std.specs.FinMap.{get, entries}
use Rattle.feed_values.specs.Schema.{Value}
use Rattle.feed_values.specs.Messages.{entity}
use Rattle.feed_values.specs.Snapshot.{header_of, entity_payloads, entity_of}
use Rattle.feed_values.specs.Cells.{text_cell}
use Rattle.feed_values.specs.declared.cell_value.CellValue.{CellValue}
use Rattle.rt_day.specs.Time.{time_of}
use Rattle.timetable.specs.Timetables.{Tables, trip_times, visits_twice}
use Rattle.timetable.specs.Stops.{stop_time_at}
use Rattle.timetable.specs.Times.{BySequence}
use Rattle.timetable.specs.Lookups.{is_present, tables_in}
use Rattle.timetable.specs.declared.Frequency.{Frequency}
use Rattle.timetable.specs.declared.Trip.{Trip}
use Rattle.timetable.specs.declared.StopTime.{StopTime}
use Rattle.timetable.specs.declared.timetable.Timetable.{Timetable}
use Rattle.rule_table.specs.declared.ask.Ask.{Ask}
use Rattle.rule_table.specs.declared.ask.Ask.TheVariants as ask
use Rattle.rule_table.specs.declared.key.EntityKey.{EntityKey}
use Rattle.rule_table.specs.declared.place.Place.{Place}
use Rattle.rule_table.specs.declared.place.Place.TheVariants as place
use Rattle.rule_table.specs.Order.{same_key}
use Rattle.rule_history.specs.History.{Snapshot, Keyed, now, before, entities, below, feed_limit}
use Rattle.rule_table.specs.Pairs as pairs
use Rattle.rule_table.specs.Pairs.{PairRow}
use Rattle.rule_history.specs.Peaks.{peak}
pub use Rattle.rule_table.specs.Answers.{yes, count_cell, natural_cell, entity_answer, Heads, previous_cell, heads_answer, rows_answer, peaks_answer, Gathered, gathered_answer, pair_answer, peak_answer, limit_answer, bound_answer}

-- ---- a timetable
-- what a timetable's files say, where it is there
abbrev pub tables_of : Timetable → Option Tables
tables_of t = if is_present t then Some (tables_in t) else None

abbrev pub trip_known : Tables → List ℕ → Bool
trip_known t trip = is_some (get t.trips trip)

-- what a trip of trips.txt has; a trip that isn't there has nothing
abbrev pub of_trip : {A : Type 0} → Tables → List ℕ → Option A → Option A
of_trip t trip o = if trip_known t trip then o else None

abbrev pub trip_row : Tables → List ℕ → Option Trip
trip_row t trip = option_map (λ only. only.item) (get t.trips trip)

abbrev pub frequencies_of : Tables → List ℕ → List Frequency
frequencies_of t trip = unwrap_or (of_trip t trip (get t.frequencies trip)) []

abbrev pub exact_number : Frequency → ℕ
exact_number f = if f.exact then 1 else 0

-- whether a time is one of the starts of a row: from its start to its end, in steps of its headway, which is at least 1
abbrev pub is_start : ℕ → Frequency → Bool
is_start time f = nat_le 1 f.headway && nat_le f.start time && nat_le time f.end && ((time - f.start) % f.headway == 0)

abbrev pub is_on_grid : List Frequency → Option ℕ → Bool
is_on_grid rows None = false
is_on_grid rows (Some time) = list_any (is_start time) rows

abbrev pub times_of : Tables → List ℕ → BySequence
times_of t trip = trip_times t.stop_times trip

-- the stop time of the lowest stop_sequence
abbrev pub first_time : Tables → List ℕ → Option StopTime
first_time t trip = of_trip t trip (option_map (λ e. e.1) (slice_get (entries (times_of t trip)) 0))

abbrev pub time_at : Tables → List ℕ → ℕ → Option StopTime
time_at t trip sequence = of_trip t trip (stop_time_at t.stop_times.times trip sequence)

abbrev pub stop_at : Tables → List ℕ → ℕ → Option (List ℕ)
stop_at t trip sequence = option_and_then (λ time. slice_get t.stop_times.stops time.stop) (time_at t trip sequence)

abbrev pub table_answer : Tables → Ask → Option CellValue
table_answer t (ask.TripKnown trip) = Some (yes (trip_known t trip))
table_answer t (ask.RouteKnown route) = Some (yes (is_some (get t.routes route)))
table_answer t (ask.AgencyKnown agency) = Some (yes (is_some (get t.agencies agency)))
table_answer t (ask.StopKind stop) = Some (natural_cell (option_map (λ only. only.item.kind) (get t.stops stop)))
table_answer t (ask.TripRoute trip) = Some (text_cell (option_map (λ row. row.route) (trip_row t trip)))
table_answer t (ask.TripDirection trip) = Some (natural_cell (option_and_then (λ row. row.direction) (trip_row t trip)))
table_answer t (ask.TripExact trip) = Some (natural_cell (option_map exact_number (slice_get (frequencies_of t trip) 0)))
table_answer t (ask.OnGrid trip text) = Some (yes (is_on_grid (frequencies_of t trip) (time_of text)))
table_answer t (ask.VisitsTwice trip) = Some (yes (trip_known t trip && visits_twice (times_of t trip)))
table_answer t (ask.FirstArrival trip) = Some (natural_cell (option_and_then (λ time. time.arrival) (first_time t trip)))
table_answer t (ask.StopAt trip n) = Some (text_cell (stop_at t trip n))
table_answer t (ask.ArrivalAt trip n) = Some (natural_cell (option_and_then (λ time. time.arrival) (time_at t trip n)))
table_answer t (ask.DepartureAt trip n) = Some (natural_cell (option_and_then (λ time. time.departure) (time_at t trip n)))
table_answer t _ = None

-- an absent timetable answers nothing
abbrev pub timetable_answer : Option Tables → Ask → Option CellValue
timetable_answer None a = None
timetable_answer (Some t) a = table_answer t a

-- what the rules on one entity and the timetable are answered
abbrev pub local_answer : Option Tables → EntityKey → Value entity → Ask → Option CellValue
local_answer t key e a = option_or (entity_answer key e a) (timetable_answer t a)

-- ---- after a history
-- the pairing rows of all entities, in the order of their keys
abbrev pub rows_in : List Keyed → List PairRow
rows_in es = flat_map (λ e. pairs.rows_of e.0 (entity_of e.1)) es

abbrev pub rows : List Snapshot → List PairRow
rows h = below (λ f. rows_in (entities h f)) feed_limit

-- with the peaks of all feeds
abbrev pub gathered : List Snapshot → Gathered
gathered h = record { rows = rows h; peaks = peak h }

-- whether the entities of two snapshots differ, as lists of byte strings
abbrev pub entities_differ : List ℕ → Option Snapshot → Bool
entities_differ bytes None = false
entities_differ bytes (Some s) = not (pointwise bytes_eq (entity_payloads bytes) (entity_payloads s.bytes))

abbrev pub heads_of : Snapshot → Option Snapshot → Heads
heads_of s previous = record {
  header = header_of s.bytes;
  previous = option_map (λ p. header_of p.bytes) previous;
  changed = entities_differ s.bytes previous;
  moment = s.moment;
}

-- the byte string of an entity
abbrev pub payload_under : EntityKey → List Keyed → Option (List ℕ)
payload_under key es = option_map (λ e. e.1) (find (λ e. same_key e.0 key) es)

-- what is answered at all places of a feed alike: by its headers, the timetable, the pairing rows and the peaks
abbrev pub shared_answer : Option Tables → Gathered → Heads → Ask → Option CellValue
shared_answer t u heads a = option_or (heads_answer heads a) (option_or (timetable_answer t a) (gathered_answer u a))

-- what is answered of a feed, whatever the place in it
abbrev pub feed_answer : Option Tables → List Snapshot → ℕ → Ask → Option CellValue
feed_answer t h f a = option_and_then (λ s. shared_answer t (gathered h) (heads_of s (before h f)) a) (now h f)

-- what is answered at an entity
abbrev pub answer_under : Option Tables → List Snapshot → EntityKey → Ask → Option CellValue
answer_under t h key a =
    option_and_then (λ p. option_or (entity_answer key (entity_of p) a) (feed_answer t h key.feed a)) (payload_under key (entities h key.feed))

-- The answer to an ask at a place after a history; none where the place's feed or entity isn't in the history.
abbrev pub answer : Option Tables → List Snapshot → Place → Ask → Option CellValue
answer t h (place.Head feed slot) = feed_answer t h feed
answer t h (place.Entity key path) = answer_under t h key
