-- Timetables as finite maps.
use Rattle.std.specs.Prelude.{◌≡◌, ◌<◌, ◌↔◌, ◌==◌, ◌||◌, ◌++◌, ℕ, List, [], ◌∷◌, Bool, false, length, map, slice_get, slice_index_or, IsTrue, Option, Some, None, option_map, Result, Ok, unwrap_or}
use Rattle.std.specs.List.{list_any}
use Rattle.std.specs.FinMap.{empty, entries, get}
use Rattle.rt_outside.specs.Store.{Contents}
use Rattle.csv_records.specs.Results.{then_with}
use Rattle.schedule_tables.specs.Folders.{both, table_of_file}
use Rattle.schedule_tables.specs.Formats.{agencies, dates, departures, routes, services, stops, trips}
use Rattle.schedule_tables.specs.Groups.{ByDay}
use Rattle.schedule_tables.specs.Maps.{ByText, Text}
use Rattle.schedule_tables.specs.Numbers.{HasNumber}
use Rattle.schedule_tables.specs.Stops.{StopTable, stop_time_at, visit_of, visits}
use Rattle.schedule_tables.specs.Tables.{table_in}
use Rattle.schedule_tables.specs.Times.{BySequence}
use Rattle.schedule_tables.specs.declared.fault.LoadFault.{LoadFault}
use Rattle.schedule_tables.specs.declared.grouped.Only.{Only}
use Rattle.schedule_rows.specs.declared.agency.Agency.{Agency}
use Rattle.schedule_rows.specs.declared.frequency.Frequency.{Frequency}
use Rattle.schedule_rows.specs.declared.route.Route.{Route}
use Rattle.schedule_rows.specs.declared.service_row.ServiceRow.{ServiceRow}
use Rattle.schedule_rows.specs.declared.stop.Stop.{Stop}
use Rattle.schedule_rows.specs.declared.trip.Trip.{Trip}
use Rattle.schedule_rows.specs.declared.visit.Visit.{Visit}
use Rattle.schedule_tables.specs.declared.stop_time.StopTime.{StopTime}

-- what the eight files say
pub record Tables : Type 0 where
  pub agencies : ByText (Only Agency)
  pub stops : ByText (Only Stop)
  pub routes : ByText (Only Route)
  pub trips : ByText (Only Trip)
  pub stop_times : StopTable
  pub services : ByText (Only ServiceRow)
  pub exceptions : ByText ByDay
  pub frequencies : ByText (List Frequency)

-- the tables of a timetable that was not given: each is empty
abbrev pub no_tables : Tables
no_tables = record {
  agencies = empty;
  stops = empty;
  routes = empty;
  trips = empty;
  stop_times = visits.empty;
  services = empty;
  exceptions = empty;
  frequencies = empty;
}

-- a timetable file has at most so many bytes
abbrev pub limit : ℕ
limit = 536_870_912

-- the tables in the order in which their files are read
abbrev pub Loaded : Type 0
Loaded = ByText (Only Agency) × (ByText (Only Stop) × (ByText (Only Route) × (ByText (Only Trip) × (StopTable × (ByText (Only ServiceRow) × (ByText ByDay × ByText (List Frequency)))))))

abbrev pub tables_from : Loaded → Tables
tables_from (agency, (stop, (route, (trip, (visit, (service, (date, departure))))))) = record {
  agencies = agency;
  stops = stop;
  routes = route;
  trips = trip;
  stop_times = visit;
  services = service;
  exceptions = date;
  frequencies = departure;
}

-- the stop times among them: stop_times.txt is the fifth file
abbrev pub stop_times_in : Loaded → StopTable
stop_times_in loaded = loaded.1.1.1.1.0

-- the files of a folder, one after the other, or the first fault
abbrev pub loaded_from : List ℕ → Contents → Result Loaded LoadFault
loaded_from folder contents =
    both (table_of_file agencies limit folder contents)
    (both (table_of_file stops limit folder contents)
    (both (table_of_file routes limit folder contents)
    (both (table_of_file trips limit folder contents)
    (both (table_of_file visits limit folder contents)
    (both (table_of_file services limit folder contents)
    (both (table_of_file dates limit folder contents)
    (table_of_file departures limit folder contents)))))))

-- the tables of a folder, or its first fault
abbrev pub tables_of : List ℕ → Contents → Result Tables LoadFault
tables_of folder contents = then_with (loaded_from folder contents) (λ loaded. Ok (tables_from loaded))

-- the stop times of a trip, none where there is no such trip
abbrev pub trip_times : StopTable → Text → BySequence
trip_times table id = unwrap_or (get table.times id) empty

-- whether some stop time has a stop of those before it, or of those seen already
abbrev pub returns_to : List ℕ → List StopTime → Bool
returns_to seen [] = false
returns_to seen (time ∷ times) = list_any (λ stop. time.stop == stop) seen || returns_to (seen ++ time.stop ∷ []) times

-- whether a trip visits some stop twice
abbrev pub visits_twice : BySequence → Bool
visits_twice times = returns_to [] (map (λ entry. entry.1) (entries times))

-- two visits of a trip, at different sequences, have one stop id
pub record StopsTwice (table : StopTable) (id : Text) : Type 0 where
  pub first : ℕ
  pub later : ℕ
  pub one : Visit
  pub other : Visit
  pub earlier : first < later
  pub at_first : option_map (visit_of table.stops) (stop_time_at table.times id first) ≡ Some one
  pub at_later : option_map (visit_of table.stops) (stop_time_at table.times id later) ≡ Some other
  pub same : one.stop ≡ other.stop

-- in the table of any file `visits_twice` is true exactly where that is so
abbrev pub TellsReturns : Type 0
TellsReturns = (bytes : List ℕ) (table : StopTable) (id : Text) → table_in visits bytes ≡ Ok table
    → IsTrue (visits_twice (trip_times table id)) ↔ StopsTwice table id

-- the location type of a stop, None where stops.txt doesn't have it
abbrev pub kind_in : ByText (Only Stop) → Text → Option ℕ
kind_in stops id = option_map (λ only. only.item.kind) (get stops id)

-- for each stop, by number, its location type
pub record KnowsKinds (stops : ByText (Only Stop)) (ids : List Text) (kinds : List (Option ℕ)) : Type 0 where
  pub size : length kinds ≡ length ids
  pub known : (n : ℕ) (id : Text) → slice_get ids n ≡ Some id → slice_index_or kinds n None ≡ kind_in stops id

-- for each trip, by number, whether it visits some stop twice
pub record KnowsTwice (trips : List (Text × Only Trip)) (table : StopTable) (twice : List Bool) : Type 0 where
  pub size : length twice ≡ length trips
  pub known : (n : ℕ) (id : Text) → HasNumber trips n id → slice_index_or twice n false ≡ visits_twice (trip_times table id)
