-- The predictions of a trip update.
-- (GTFS Realtime Reference, "Trip Updates" and "TripDescriptor"; the modes are this profile's.)
use Rattle.std.specs.Prelude.{◌≡◌, ℕ, ℤ, ◌+ℤ◌, ◌==◌, Bool, true, false, List, [], ◌∷◌, Option, Some, None, option_map, unwrap_or}
use Rattle.feed_values.specs.declared.trip_descriptor.TripDescriptor.{TripDescriptor}
use Rattle.feed_values.specs.declared.trip_update.TripUpdate.{TripUpdate}
use Rattle.jiff_tz.specs.declared.timezone.TimeZone.{TimeZone as PlainZone}
use Rattle.rt_day.specs.Date.{IsYearInRange}
use Rattle.timetable.specs.Lookups.{IsTrip, IsTripOf, tables_in}
use Rattle.timetable.specs.Maps.{Text}
use Rattle.timetable.specs.Timetables.{Tables}
use Rattle.trip_calendar.specs.ServiceDays.{IsServiceDay}
use Rattle.trip_calendar.specs.Trips.{shift_of}
use Rattle.trip_calendar.specs.Zones.{IsOrigin}
use Rattle.propagation.specs.Events.{Event, events}
use Rattle.propagation.specs.Matching.{AreMatches}
use Rattle.propagation.specs.Rows.{canceled_row, scheduled_rows, stated_from}
use Rattle.propagation.specs.Setters.{IsZero, is_scheduled, setters}
use Rattle.propagation.specs.Stops.{Stop, stops_of}
use Rattle.propagation.specs.declared.placed_setter.PlacedSetter.{PlacedSetter}
use Rattle.propagation.specs.declared.prediction_row.PredictionRow.{PredictionRow}
use Rattle.propagation.specs.declared.predictions.Predictions.{Predictions}
use Rattle.propagation.specs.declared.resolver.Timing.{Timing}
use Rattle.timetable.specs.declared.timetable.Timetable.{Timetable}

-- what predictions hold: the service day, the rows, and the setters by rising position
abbrev pub day_in : Predictions → Option ℤ
day_in p = option_map (λ day. day.number) p.day

abbrev pub rows_in : Predictions → List PredictionRow
rows_in p = p.rows.items

abbrev pub setters_in : Predictions → List PlacedSetter
setters_in p = p.setters.items

pub record Holds (p : Predictions) (day : Option ℤ) (placed : List PlacedSetter) (rows : List PredictionRow) : Type 0 where
  pub has_day : day_in p ≡ day
  pub has_setters : setters_in p ≡ placed
  pub has_rows : rows_in p ≡ rows

-- a trip update whose relationship is 3 CANCELED
abbrev pub is_canceled : TripDescriptor → Bool
is_canceled trip = unwrap_or trip.schedule_relationship 0 == 3

-- the zero from which the times of a trip with a shift count on a day: the origin of the day plus the shift
abbrev pub IsZeroOf : PlainZone → (day shift zero : ℤ) → Type 0
IsZeroOf zone day shift zero = (origin : ℤ) × IsOrigin zone day origin × (zero ≡ origin +ℤ shift)

-- scheduled mode: the relationship is SCHEDULED or not given, the trip is known and has a service day, and it has a shift.
pub record IsTimed (t : Tables) (zone : PlainZone) (trip : TripDescriptor) (moment : ℕ) (id : Text) (day zero : ℤ) : Type 0 where
  pub shift : ℤ
  pub scheduled : is_scheduled trip.schedule_relationship ≡ true
  pub named : trip.trip_id ≡ Some id
  pub is_day : IsServiceDay t zone trip moment (Some day)
  pub is_shift : shift_of t id trip.start_time ≡ Some shift
  pub is_zero : IsZeroOf zone day shift zero

-- what keeps a trip update out of scheduled mode
pub data IsUntimed (t : Tables) (zone : PlainZone) (trip : TripDescriptor) (moment : ℕ) : Type 0 where
  unscheduled : is_scheduled trip.schedule_relationship ≡ false → IsUntimed t zone trip moment
  has_no_day : IsServiceDay t zone trip moment None → IsUntimed t zone trip moment
  has_no_shift : (id : Text) → trip.trip_id ≡ Some id → shift_of t id trip.start_time ≡ None → IsUntimed t zone trip moment

-- the rows in scheduled mode: of each event by its governing setter, then of the unmatched updates
abbrev pub HoldsScheduled : Predictions → ℤ → TripUpdate → List (Option ℕ) → List Event → Type 0
HoldsScheduled p day update matches events =
    Holds p (Some day) (setters update.delay events)
    (scheduled_rows (setters update.delay events) events update.stop_time_update matches)

-- what is predicted of a trip update at a moment
pub data IsPrediction (t : Tables) (zone : PlainZone) (update : TripUpdate) (moment : ℕ) (p : Predictions) : Type 0 where
  canceled : is_canceled update.trip ≡ true → Holds p None [] (canceled_row ∷ []) → IsPrediction t zone update moment p
  scheduled : (id : Text) (day zero : ℤ) (matches : List (Option ℕ)) → IsTimed t zone update.trip moment id day zero
      → AreMatches (stops_of t id) update.stop_time_update matches
      → HoldsScheduled p day update matches (events zero (stops_of t id) update.stop_time_update matches)
      → IsPrediction t zone update moment p
  stated : is_canceled update.trip ≡ false → IsUntimed t zone update.trip moment
      → Holds p None [] (stated_from 0 update.stop_time_update) → IsPrediction t zone update moment p

-- a trip's timing, or that it isn't in scheduled mode
pub record IsTimingOf (table : Timetable) (zone : PlainZone) (trip : TripDescriptor) (moment : ℕ) (timing : Timing) : Type 0 where
  pub id : Text
  pub is_trip : IsTrip table timing.trip
  pub has_id : IsTripOf table timing.trip id
  pub is_timed : IsTimed (tables_in table) zone trip moment id timing.day.number timing.zero
  pub in_range : IsYearInRange timing.day.number
  pub small : IsZero timing.zero

abbrev pub IsTiming : Timetable → PlainZone → TripDescriptor → ℕ → Option Timing → Type 0
IsTiming table zone trip moment None = IsUntimed (tables_in table) zone trip moment
IsTiming table zone trip moment (Some timing) = IsTimingOf table zone trip moment timing

-- predictions in scheduled mode, over the stops of a trip
pub record AreOver (stops : List Stop) (update : TripUpdate) (day zero : ℤ) (p : Predictions) : Type 0 where
  pub matches : List (Option ℕ)
  pub are_matches : AreMatches stops update.stop_time_update matches
  pub holds : HoldsScheduled p day update matches (events zero stops update.stop_time_update matches)

-- the zero, which is there where the trip has a shift
abbrev pub HasZero : PlainZone → ℤ → (shift zero : Option ℤ) → Type 0
HasZero zone day None zero = zero ≡ None
HasZero zone day (Some shift) None = ⊥
HasZero zone day (Some shift) (Some zero) = IsZeroOf zone day shift zero × IsZero zero
