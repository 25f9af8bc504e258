-- The timetable of the trial, as the text of its five files. (GTFS Schedule Reference, "Field Definitions"; which rows they have
-- is this profile's.)
use Rattle.std.specs.Prelude.{ℕ, List, [], ◌∷◌, ◌++◌, codes}
use Rattle.std.specs.List.{flat_map, range_with_len}
use Rattle.std.specs.FinMap.{from_entries}
use Rattle.rt_outside.specs.Store.{Contents}
use Rattle.trial_feed.specs.Messages.{numbered}

-- a text and a line feed
abbrev pub line_of : List ℕ → List ℕ
line_of text = text ++ 10 ∷ []

abbrev pub agency_text : List ℕ
agency_text = line_of (codes "agency_id") ++ line_of (codes "A1")

abbrev pub stops_text : List ℕ
stops_text = line_of (codes "stop_id") ++ line_of (codes "S1")

abbrev pub routes_text : List ℕ
routes_text = line_of (codes "route_id") ++ line_of (codes "R1")

-- the row of trip k, whose id stands between two texts
abbrev pub trip_row : List ℕ → List ℕ → ℕ → List ℕ
trip_row before after k = line_of (before ++ numbered (codes "T") k ++ after)

-- the rows of so many trips, from trip 0 on
unfoldable pub trip_rows : List ℕ → List ℕ → ℕ → List ℕ
trip_rows before after count = flat_map (trip_row before after) (range_with_len 0 count)

-- 1,999 trips of route R1 and service WK
unfoldable pub trips_text : List ℕ
trips_text = line_of (codes "route_id,service_id,trip_id") ++ trip_rows (codes "R1,WK,") [] 1999

-- one stop time of each
unfoldable pub stop_times_text : List ℕ
stop_times_text =
    line_of (codes "trip_id,arrival_time,departure_time,stop_id,stop_sequence") ++ trip_rows [] (codes ",08:00:00,08:00:00,S1,1") 1999

-- the folder `trial`
unfoldable pub trial_contents : Contents
trial_contents = from_entries (
    (codes "trial/agency.txt", agency_text) ∷
    (codes "trial/stops.txt", stops_text) ∷
    (codes "trial/routes.txt", routes_text) ∷
    (codes "trial/trips.txt", trips_text) ∷
    (codes "trial/stop_times.txt", stop_times_text) ∷
    [])
