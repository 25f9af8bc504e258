-- The files that are read: GTFS Schedule Reference, "Dataset Files". Which of them must stand is this profile's rule.
use Rattle.std.specs.Prelude.{ℕ, List, [], ◌∷◌, Bool, true, false, codes}
use Rattle.schedule_rows.specs.declared.column.Column.{Column}
use Rattle.schedule_rows.specs.declared.column.Column.TheVariants as col
use Rattle.schedule_rows.specs.declared.file.File.{File}
use Rattle.schedule_rows.specs.declared.file.File.TheVariants.{Agency, Stops, Routes, Trips, StopTimes, Calendar, CalendarDates, Frequencies}

abbrev pub file_name : File → List ℕ
file_name Agency = codes "agency.txt"
file_name Stops = codes "stops.txt"
file_name Routes = codes "routes.txt"
file_name Trips = codes "trips.txt"
file_name StopTimes = codes "stop_times.txt"
file_name Calendar = codes "calendar.txt"
file_name CalendarDates = codes "calendar_dates.txt"
file_name Frequencies = codes "frequencies.txt"

-- a timetable without the file is refused
abbrev pub must_stand : File → Bool
must_stand Calendar = false
must_stand CalendarDates = false
must_stand Frequencies = false
must_stand _ = true

-- the columns that are read, in the order in which they are checked
abbrev pub columns_of : File → List Column
columns_of Agency = col.AgencyId ∷ []
columns_of Stops = col.StopId ∷ col.LocationType ∷ []
columns_of Routes = col.RouteId ∷ []
columns_of Trips = col.RouteId ∷ col.ServiceId ∷ col.TripId ∷ col.DirectionId ∷ []
columns_of StopTimes = col.TripId ∷ col.ArrivalTime ∷ col.DepartureTime ∷ col.StopId ∷ col.StopSequence ∷ []
columns_of Calendar = col.ServiceId ∷ col.Monday ∷ col.Tuesday ∷ col.Wednesday ∷ col.Thursday ∷ col.Friday ∷ col.Saturday ∷ col.Sunday ∷ col.StartDate ∷ col.EndDate ∷ []
columns_of CalendarDates = col.ServiceId ∷ col.Date ∷ col.ExceptionType ∷ []
columns_of Frequencies = col.TripId ∷ col.StartTime ∷ col.EndTime ∷ col.HeadwaySecs ∷ col.ExactTimes ∷ []
