-- The columns that are read: GTFS Schedule Reference, "Field Definitions".
use Rattle.std.specs.Prelude.{ℕ, List, Bool, true, false, codes}
use Rattle.schedule_rows.specs.declared.column.Column.{Column}
use Rattle.schedule_rows.specs.declared.column.Column.TheVariants.{AgencyId, StopId, LocationType, RouteId, ServiceId, TripId, DirectionId, ArrivalTime, DepartureTime, StopSequence, Monday, Tuesday, Wednesday, Thursday, Friday, Saturday, Sunday, StartDate, EndDate, Date, ExceptionType, StartTime, EndTime, HeadwaySecs, ExactTimes}

-- the name in the header row
abbrev pub name_of : Column → List ℕ
name_of AgencyId = codes "agency_id"
name_of StopId = codes "stop_id"
name_of LocationType = codes "location_type"
name_of RouteId = codes "route_id"
name_of ServiceId = codes "service_id"
name_of TripId = codes "trip_id"
name_of DirectionId = codes "direction_id"
name_of ArrivalTime = codes "arrival_time"
name_of DepartureTime = codes "departure_time"
name_of StopSequence = codes "stop_sequence"
name_of Monday = codes "monday"
name_of Tuesday = codes "tuesday"
name_of Wednesday = codes "wednesday"
name_of Thursday = codes "thursday"
name_of Friday = codes "friday"
name_of Saturday = codes "saturday"
name_of Sunday = codes "sunday"
name_of StartDate = codes "start_date"
name_of EndDate = codes "end_date"
name_of Date = codes "date"
name_of ExceptionType = codes "exception_type"
name_of StartTime = codes "start_time"
name_of EndTime = codes "end_time"
name_of HeadwaySecs = codes "headway_secs"
name_of ExactTimes = codes "exact_times"

-- whether each file that has the column must have it in its header row; this profile asks for no others
abbrev pub is_required : Column → Bool
is_required AgencyId = false
is_required LocationType = false
is_required DirectionId = false
is_required ArrivalTime = false
is_required DepartureTime = false
is_required ExactTimes = false
is_required _ = true

-- the number of the column
abbrev pub number_of : Column → ℕ
number_of AgencyId = 0
number_of StopId = 1
number_of LocationType = 2
number_of RouteId = 3
number_of ServiceId = 4
number_of TripId = 5
number_of DirectionId = 6
number_of ArrivalTime = 7
number_of DepartureTime = 8
number_of StopSequence = 9
number_of Monday = 10
number_of Tuesday = 11
number_of Wednesday = 12
number_of Thursday = 13
number_of Friday = 14
number_of Saturday = 15
number_of Sunday = 16
number_of StartDate = 17
number_of EndDate = 18
number_of Date = 19
number_of ExceptionType = 20
number_of StartTime = 21
number_of EndTime = 22
number_of HeadwaySecs = 23
number_of ExactTimes = 24
