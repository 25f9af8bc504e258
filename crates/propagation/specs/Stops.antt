-- The stops of a trip, and which of them an update names.
-- (GTFS Schedule Reference, "stop_times.txt"; GTFS Realtime Reference, "StopTimeUpdate", stop_sequence and stop_id.)
use Rattle.std.specs.Prelude.{◌≡◌, ℕ, ◌≤◌, ◌<◌, ◌==◌, Bool, true, false, List, [], map, Option, Some, None, option_map, slice_get, unwrap_or, bytes_eq}
use Rattle.std.specs.FinMap.{entries}
use Rattle.feed_values.specs.declared.stop_time_update.StopTimeUpdate.{StopTimeUpdate}
use Rattle.timetable.specs.Lookups.{tables_in}
use Rattle.timetable.specs.Maps.{Text}
use Rattle.timetable.specs.Timetables.{Tables, trip_times}
use Rattle.timetable.specs.declared.StopTime.{StopTime}
use Rattle.propagation.specs.declared.stops.Stops.{Stops}
use Rattle.propagation.specs.declared.visit.Visit.{Visit}

-- a stop of a trip, with its stop_id
pub record Stop : Type 0 where
  pub stop : Text
  pub sequence : ℕ
  pub arrival : Option ℕ
  pub departure : Option ℕ

-- a stop time with the id of its stop
abbrev pub stop_with : List Text → StopTime → Stop
stop_with ids time = record { stop = unwrap_or (slice_get ids time.stop) []; sequence = time.sequence; arrival = time.arrival; departure = time.departure }

abbrev pub with_ids : List Text → List StopTime → List Stop
with_ids ids times = map (stop_with ids) times

-- the stops of a trip, by rising stop_sequence
abbrev pub stops_of : Tables → Text → List Stop
stops_of t id = with_ids t.stop_times.stops (map (λ entry. entry.1) (entries (trip_times t.stop_times id)))

-- the stop that a `Visit` stands for
abbrev pub stop_in : Visit → Stop
stop_in visit = record { stop = visit.stop.now; sequence = visit.sequence; arrival = visit.arrival; departure = visit.departure }

-- the stops that a `Stops` stands for
abbrev pub stops_in : Stops → List Stop
stops_in s = with_ids (tables_in s.table.now).stop_times.stops s.times.now

-- an update names the stop of its stop_sequence, or where it states none each stop of its stop_id
abbrev pub names_by : Option ℕ → Option Text → Stop → Bool
names_by (Some sequence) id stop = stop.sequence == sequence
names_by None (Some id) stop = bytes_eq id stop.stop
names_by None None stop = false

abbrev pub names : StopTimeUpdate → Stop → Bool
names update = names_by update.stop_sequence update.stop_id

-- the stop at a place, counted from 0, passes a test
abbrev pub passes : (Stop → Bool) → List Stop → ℕ → Bool
passes test stops place = unwrap_or (option_map test (slice_get stops place)) false

-- the first stop from a place on that passes a test
abbrev pub IsFirstFrom : (Stop → Bool) → List Stop → ℕ → Option ℕ → Type 0
IsFirstFrom test stops from None = (place : ℕ) → from ≤ place → passes test stops place ≡ false
IsFirstFrom test stops from (Some first) =
    (from ≤ first) × (passes test stops first ≡ true) × ((place : ℕ) → from ≤ place → place < first → passes test stops place ≡ false)

-- each stop's id has a place at or after that stop
abbrev pub Reaches : ℕ → Option ℕ → Type 0
Reaches place None = ⊥
Reaches place (Some last) = place ≤ last

abbrev pub AreReached : List Stop → (Text → Option ℕ) → Type 0
AreReached stops last = (place : ℕ) (stop : Stop) → slice_get stops place ≡ Some stop → Reaches place (last stop.stop)
