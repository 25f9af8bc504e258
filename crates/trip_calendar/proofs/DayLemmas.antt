-- Candidates, and the stop times of a trip.
use Rattle.std.proofs.Common.{◌≡◌, ℕ, ℤ, pos, ◌+ℤ◌, ◌-ℤ◌, List, [], ◌∷◌, map, true, Some, None, Result, Ok, Err, IfOk, IfSome, is_some, option_map, refl, sym, ap, ◌∙◌, subst, unsigned_abs}
use Rattle.std.specs.declared.option.Option.{Option}
use Rattle.std.specs.Option.{option_and_then}
use Rattle.std.specs.FinMap.{entries}
use Rattle.rt_day.specs.declared.day.Day.{Day}
use Rattle.rt_day.specs.Date.{IsYearInRange}
use Rattle.jiff_tz.specs.declared.timezone.TimeZone.{TimeZone as PlainZone}
use Rattle.timetable.specs.Maps.{Text}
use Rattle.timetable.specs.Timetables.{Tables, trip_times}
use Rattle.timetable.specs.Times.{keyed}
use Rattle.timetable.specs.declared.StopTime.{StopTime}
use Rattle.timetable.specs.declared.Frequency.{Frequency}
use Rattle.timetable.specs.declared.Only.{Only}
use Rattle.timetable.specs.declared.Trip.{Trip}
use Rattle.feed_values.specs.declared.trip_descriptor.TripDescriptor.{TripDescriptor}
use Rattle.rt_day.specs.Time.{time_of}
use Rattle.trip_calendar.specs.Services.{runs}
use Rattle.trip_calendar.specs.Trips.{first_given, first_time, first_run, frequencies_of, shift_by, time_by}
use Rattle.trip_calendar.specs.ServiceDays.{IsCandidate, IsDated, IsDayFrom, IsDayOfRow, IsNearest}
use Rattle.trip_calendar.specs.Zones.{IsOrigin}

-- a day with an origin on which the service runs
pub candidate_at : (t : Tables) (zone : PlainZone) (service : Text) (time : ℤ) (moment : ℕ) (day : Day) (distance : ℕ) (origin : ℤ) →
    runs t service day.number ≡ true → IsYearInRange day.number → IsOrigin zone day.number origin →
    distance ≡ unsigned_abs (origin +ℤ time -ℤ pos moment) → IsCandidate t zone service time moment day.number (Some (record { day = day; distance = distance }))
candidate_at t zone service time moment day distance origin run within is e = (run, within, refl, (origin, is, e))

values-keyed : (times : List StopTime) → map (λ entry. entry.1) (keyed times) ≡ times
values-keyed [] = refl
values-keyed (time ∷ times) = ap (λ ts. time ∷ ts) (values-keyed times)

-- the stop times of a trip are those of its entries
pub first_time-given : (t : Tables) (id : Text) (times : List StopTime) → keyed times ≡ entries (trip_times t.stop_times id) → first_given times ≡ first_time t id
first_time-given t id times e = ap first_given (sym (values-keyed times)) ∙ ap (λ es. first_given (map (λ entry. entry.1) es)) e

-- ---- what holds of a trip's row
module _ (t : Tables) (zone : PlainZone) (d : TripDescriptor) (moment : ℕ) (id : Text) where
  -- a start_date decides, whatever the row
  pub dated_row : (o : Option (Only Trip)) (text : List ℕ) (answer : Option ℤ) → is_some o ≡ true → d.start_date ≡ Some text → IsDated text answer →
      IsDayOfRow t zone d moment id o answer
  dated_row None text answer some e h = absurd (cc some)
  dated_row (Some row) text answer some e h =
      subst (λ date. IsDayFrom t zone moment id row.item.service date d.start_time answer) (sym e) h

  -- without one the nearest day of the row's service
  pub nearest_row : {E : Type 0} (o : Option (Only Trip)) (r : Result (Option Day) E) → is_some o ≡ true → d.start_date ≡ None →
      IfSome (option_map (λ only. only.item) o) (λ row. IfOk r (λ found. IsNearest t zone row.service moment (first_run t id d.start_time) (option_map (λ day. day.number) found))) →
      IfOk r (λ found. IsDayOfRow t zone d moment id o (option_map (λ day. day.number) found))
  nearest_row None r some e h = absurd (cc some)
  nearest_row (Some row) (Ok found) some e h =
      subst (λ date. IsDayFrom t zone moment id row.item.service date d.start_time (option_map (λ day. day.number) found)) (sym e) h
  nearest_row (Some row) (Err fault) some e h = tt

pub if_some : {A : Type 0} (o : Option A) (P Q : A → Type 0) → ((x : A) → P x → Q x) → IfSome o P → IfSome o Q
if_some None P Q f h = tt
if_some (Some x) P Q f h = f x h

-- the first time with its shift
pub first_run-by : (t : Tables) (id : Text) (start_time : Option (List ℕ)) (frequencies : List Frequency) (start first : Option ℕ) →
    frequencies ≡ frequencies_of t id → start ≡ option_and_then time_of start_time → first ≡ first_time t id →
    time_by first (shift_by frequencies start first) ≡ first_run t id start_time
first_run-by t id start_time frequencies start first f s g =
    ap (λ fs. time_by first (shift_by fs start first)) f ∙ ap (λ o. time_by first (shift_by (frequencies_of t id) o first)) s
    ∙ ap (λ o. time_by o (shift_by (frequencies_of t id) (option_and_then time_of start_time) o)) g
