-- The service day of a trip: the day that its times count from.
-- (GTFS Schedule Reference, "Field Types", Date and Time; GTFS Realtime Reference, "TripDescriptor", start_date; the choice
-- without a start_date is this profile's.)
use Rattle.std.specs.Prelude.{◌≡◌, ℕ, ◌≤◌, ◌<◌, nat_lt, ℤ, pos, ◌+ℤ◌, ◌-ℤ◌, unsigned_abs, true, List, Option, Some, None, option_map, ◌⊎◌, ⊤, if◌then◌else◌}
use Rattle.std.specs.FinMap.{get}
use Rattle.rt_day.specs.Date.{date_of, IsYearInRange}
use Rattle.feed_values.specs.declared.trip_descriptor.TripDescriptor.{TripDescriptor}
use Rattle.jiff_tz.specs.declared.timezone.TimeZone.{TimeZone as PlainZone}
use Rattle.timetable.specs.Maps.{Text}
use Rattle.timetable.specs.Timetables.{Tables}
use Rattle.timetable.specs.declared.Only.{Only}
use Rattle.timetable.specs.declared.Trip.{Trip}
use Rattle.trip_calendar.specs.declared.candidate.Candidate.{Candidate}
use Rattle.trip_calendar.specs.Services.{runs}
use Rattle.trip_calendar.specs.Trips.{first_run}
use Rattle.trip_calendar.specs.Zones.{IsOrigin, IsLocalDay}

-- a day is a candidate where it has an origin and the service runs on it; its distance is that of the time from the moment
abbrev pub IsCandidate : Tables → PlainZone → Text → ℤ → ℕ → ℤ → Option Candidate → Type 0
IsCandidate t zone service time moment day None = runs t service day ≡ true → IsYearInRange day → ⊥
IsCandidate t zone service time moment day (Some candidate) =
    (runs t service day ≡ true) × IsYearInRange day × (candidate.day.number ≡ day)
    × ((origin : ℤ) × IsOrigin zone day origin × (candidate.distance ≡ unsigned_abs (origin +ℤ time -ℤ pos moment)))

-- the nearer of two candidates, the first where both are equally far
abbrev pub nearer : Option Candidate → Option Candidate → Option Candidate
nearer None second = second
nearer (Some first) None = Some first
nearer (Some first) (Some second) = if nat_lt second.distance first.distance then Some second else Some first

-- ---- the nearest of three days in words: it is nearer than those before it and no farther than those after it
abbrev pub IsNearer : Candidate → Option Candidate → Type 0
IsNearer candidate None = ⊤
IsNearer candidate (Some other) = candidate.distance < other.distance

abbrev pub IsNoFarther : Candidate → Option Candidate → Type 0
IsNoFarther candidate None = ⊤
IsNoFarther candidate (Some other) = candidate.distance ≤ other.distance

pub data IsNearestOf (before same after : Option Candidate) (candidate : Candidate) : Type 0 where
  is_before : before ≡ Some candidate → IsNoFarther candidate same → IsNoFarther candidate after → IsNearestOf before same after candidate
  is_same : same ≡ Some candidate → IsNearer candidate before → IsNoFarther candidate after → IsNearestOf before same after candidate
  is_after : after ≡ Some candidate → IsNearer candidate before → IsNearer candidate same → IsNearestOf before same after candidate

-- what is found is that, and nothing is found only where no day is a candidate
abbrev pub FindsNearest : Type 0
FindsNearest = (before same after : Option Candidate) (candidate : Candidate) → nearer (nearer before same) after ≡ Some candidate
    → IsNearestOf before same after candidate

abbrev pub FindsAny : Type 0
FindsAny = (before same after : Option Candidate) → nearer (nearer before same) after ≡ None → (before ≡ None) × (same ≡ None) × (after ≡ None)

-- ---- the service day
-- the nearest of the day before the local date, that date and the day after it, the earliest where some are equally far
pub record IsNearestAround (t : Tables) (zone : PlainZone) (service : Text) (time : ℤ) (moment : ℕ) (answer : Option ℤ) : Type 0 where
  pub date : ℤ
  pub before : Option Candidate
  pub same : Option Candidate
  pub after : Option Candidate
  pub is_date : IsLocalDay zone moment date
  pub is_before : IsCandidate t zone service time moment (date -ℤ pos 1) before
  pub is_same : IsCandidate t zone service time moment date same
  pub is_after : IsCandidate t zone service time moment (date +ℤ pos 1) after
  pub nearest : answer ≡ option_map (λ candidate. candidate.day.number) (nearer (nearer before same) after)

-- the last moment that has a local date
abbrev pub last_moment : ℕ
last_moment = 250_000_000_000

-- where the trip has a first time with its shift and the moment has a local date
abbrev pub IsNearest : Tables → PlainZone → Text → ℕ → (time : Option ℤ) → Option ℤ → Type 0
IsNearest t zone service moment None answer = answer ≡ None
IsNearest t zone service moment (Some time) answer =
    ((moment ≤ last_moment) × IsNearestAround t zone service time moment answer) ⊎ ((last_moment < moment) × (answer ≡ None))

-- the day that a start_date writes, where it is a date with an origin
abbrev pub IsDated : List ℕ → Option ℤ → Type 0
IsDated text None = (day : ℤ) → date_of text ≡ Some day → IsYearInRange day → ⊥
IsDated text (Some day) = (date_of text ≡ Some day) × IsYearInRange day

-- a start_date decides, and without one the nearest day
abbrev pub IsDayFrom : Tables → PlainZone → ℕ → (id service : Text) → (start_date start_time : Option (List ℕ)) → Option ℤ → Type 0
IsDayFrom t zone moment id service (Some text) start_time answer = IsDated text answer
IsDayFrom t zone moment id service None start_time answer =
    IsNearest t zone service moment (first_run t id start_time) answer

-- a trip that isn't in trips.txt has none
abbrev pub IsDayOfRow : Tables → PlainZone → TripDescriptor → ℕ → Text → Option (Only Trip) → Option ℤ → Type 0
IsDayOfRow t zone d moment id None answer = answer ≡ None
IsDayOfRow t zone d moment id (Some row) answer = IsDayFrom t zone moment id row.item.service d.start_date d.start_time answer

abbrev pub IsDayOfTrip : Tables → PlainZone → TripDescriptor → ℕ → Option Text → Option ℤ → Type 0
IsDayOfTrip t zone d moment None answer = answer ≡ None
IsDayOfTrip t zone d moment (Some id) answer = IsDayOfRow t zone d moment id (get t.trips id) answer

-- the service day of a trip descriptor at a moment, or that it has none
abbrev pub IsServiceDay : Tables → PlainZone → TripDescriptor → ℕ → Option ℤ → Type 0
IsServiceDay t zone d moment answer = IsDayOfTrip t zone d moment d.trip_id answer
