-- What a timetable's look-ups answer.
use Rattle.std.specs.Prelude.{◌≡◌, ◌<◌, ℕ, List, [], Bool, length, Option, Some, is_some, option_map, unwrap_or}
use Rattle.std.specs.FinMap.{get}
use Rattle.schedule_tables.specs.Maps.{Text}
use Rattle.schedule_tables.specs.Numbers.{HasNumber, map_of}
use Rattle.timetable.specs.Timetables.{Tables, no_tables}
use Rattle.schedule_tables.specs.declared.grouped.Only.{Only}
use Rattle.schedule_rows.specs.declared.trip.Trip.{Trip}
use Rattle.timetable.specs.declared.timetable.HeldTables.{HeldTables}
use Rattle.timetable.specs.declared.timetable.ServiceNo.{ServiceNo}
use Rattle.timetable.specs.declared.timetable.Timetable.{Timetable}
use Rattle.timetable.specs.declared.timetable.TripNo.{TripNo}

-- the tables that a timetable holds, None where it was not given
abbrev pub tables_held : Timetable → Option HeldTables
tables_held timetable = option_map (λ boxed. boxed.value) timetable.tables

-- whether the timetable was loaded
abbrev pub is_present : Timetable → Bool
is_present timetable = is_some (tables_held timetable)

-- its trips in the order of their numbers
abbrev pub trips_in : Timetable → List (Text × Only Trip)
trips_in timetable = unwrap_or (option_map (λ held. held.trips) (tables_held timetable)) []

-- what the files of the tables that are held say
abbrev pub tables_from_held : HeldTables → Tables
tables_from_held held = record {
  agencies = held.agencies;
  stops = held.stops;
  routes = held.routes;
  trips = map_of held.trips;
  stop_times = held.stop_times;
  services = held.services;
  exceptions = held.exceptions;
  frequencies = held.frequencies;
}

-- the tables of its files
abbrev pub tables_in : Timetable → Tables
tables_in timetable = unwrap_or (option_map tables_from_held (tables_held timetable)) no_tables

-- the number is one of this timetable's trips
abbrev pub IsTrip : Timetable → TripNo → Type 0
IsTrip timetable trip = trip.number < length (trips_in timetable)

-- the trip with the number has the id
abbrev pub IsTripOf : Timetable → TripNo → Text → Type 0
IsTripOf timetable trip id = HasNumber (trips_in timetable) trip.number id

-- the row of a trip
abbrev pub trip_row : Timetable → Text → Option Trip
trip_row timetable id = option_map (λ only. only.item) (get (tables_in timetable).trips id)

-- the number is one of this timetable's services
abbrev pub IsService : Timetable → ServiceNo → Type 0
IsService timetable service = service.trip < length (trips_in timetable)

-- the service with the number has the id: it is the one of a trip's row
pub record IsServiceOf (timetable : Timetable) (service : ServiceNo) (id : Text) : Type 0 where
  pub trip : Text
  pub number : HasNumber (trips_in timetable) service.trip trip
  pub row : option_map (λ row. row.service) (trip_row timetable trip) ≡ Some id

-- the number is one of the stops of this timetable's stop times
abbrev pub IsStop : Timetable → ℕ → Type 0
IsStop timetable stop = stop < length (tables_in timetable).stop_times.stops
