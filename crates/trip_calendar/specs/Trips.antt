-- The first given time of a trip, and the shift of a trip that runs by frequencies.
-- (GTFS Schedule Reference, "stop_times.txt" and "frequencies.txt"; GTFS Realtime Reference, "TripDescriptor", start_time.)
use Rattle.std.specs.Prelude.{ℕ, ℤ, pos, ◌+ℤ◌, ◌-ℤ◌, List, [], ◌∷◌, map, Option, Some, None, option_and_then, unwrap_or}
use Rattle.std.specs.Option.{option_or}
use Rattle.std.specs.FinMap.{get, entries}
use Rattle.rt_day.specs.Time.{time_of}
use Rattle.timetable.specs.Maps.{Text}
use Rattle.timetable.specs.Timetables.{Tables, trip_times}
use Rattle.timetable.specs.declared.Frequency.{Frequency}
use Rattle.timetable.specs.declared.StopTime.{StopTime}

-- the first time that is given, in the order of events: a stop's arrival, then its departure, then the next stop's
abbrev pub first_given : List StopTime → Option ℕ
first_given [] = None
first_given (time ∷ times) = option_or (option_or time.arrival time.departure) (first_given times)

-- the first given time of a trip
abbrev pub first_time : Tables → Text → Option ℕ
first_time t id = first_given (map (λ entry. entry.1) (entries (trip_times t.stop_times id)))

-- how much later than in stop_times.txt a trip runs, in seconds, by its frequencies, its start and its first given time. A
-- trip of frequencies has no shift without a start.
abbrev pub shift_by : List Frequency → (start first : Option ℕ) → Option ℤ
shift_by [] start first = Some (pos 0)
shift_by (row ∷ rows) None first = None
shift_by (row ∷ rows) (Some start) None = Some (pos 0)
shift_by (row ∷ rows) (Some start) (Some first) = Some (pos start -ℤ pos first)

abbrev pub frequencies_of : Tables → Text → List Frequency
frequencies_of t id = unwrap_or (get t.frequencies id) []

-- the shift of a trip whose descriptor gives this start_time
abbrev pub shift_of : Tables → Text → Option (List ℕ) → Option ℤ
shift_of t id start_time = shift_by (frequencies_of t id) (option_and_then time_of start_time) (first_time t id)

-- the first given time of a trip, as late as it runs
abbrev pub time_by : (first : Option ℕ) → (shift : Option ℤ) → Option ℤ
time_by (Some first) (Some shift) = Some (pos first +ℤ shift)
time_by (Some first) None = None
time_by None shift = None

abbrev pub first_run : Tables → Text → Option (List ℕ) → Option ℤ
first_run t id start_time = time_by (first_time t id) (shift_of t id start_time)
