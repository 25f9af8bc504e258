-- A service day has an origin.
use Rattle.std.proofs.Common.{◌≡◌, ℕ, ℤ, ◌+ℤ◌, List, Bool, true, false, cond, Some, None, Option, IfSome, option_map, refl, sym, subst, ⊎_elim}
use Rattle.std.specs.Prelude.{nat_lt}
use Rattle.std.specs.FinMap.{get}
use Rattle.jiff_tz.specs.declared.timezone.TimeZone.{TimeZone as PlainZone}
use Rattle.rt_day.specs.Date.{IsYearInRange}
use Rattle.feed_values.specs.declared.trip_descriptor.TripDescriptor.{TripDescriptor}
use Rattle.timetable.specs.Maps.{Text}
use Rattle.timetable.specs.Timetables.{Tables}
use Rattle.timetable.specs.declared.Only.{Only}
use Rattle.timetable.specs.declared.Trip.{Trip}
use Rattle.trip_calendar.specs.declared.candidate.Candidate.{Candidate}
use Rattle.trip_calendar.specs.ServiceDays.{IsCandidate, IsDayFrom, IsDayOfRow, IsDayOfTrip, IsNearest, IsNearestAround, IsServiceDay, nearer}
use Rattle.trip_calendar.specs.Trips.{first_run}
use Rattle.trip_calendar.specs.Zones.{IsOrigin}
use Rattle.propagation.specs.Predictions.{HasZero, IsZeroOf}
use Rattle.propagation.specs.Setters.{IsZero}

abbrev HasOrigin : Option Candidate → Type 0
HasOrigin o = IfSome o (λ candidate. IsYearInRange candidate.day.number)

chosen : (b : Bool) (x y : Candidate) → IsYearInRange x.day.number → IsYearInRange y.day.number → HasOrigin (cond b (Some x) (Some y))
chosen true x y h k = h
chosen false x y h k = k

nearer_has : (a b : Option Candidate) → HasOrigin a → HasOrigin b → HasOrigin (nearer a b)
nearer_has None b h k = k
nearer_has (Some x) None h k = h
nearer_has (Some x) (Some y) h k = chosen (nat_lt y.distance x.distance) y x k h

candidate_has : (t : Tables) (zone : PlainZone) (service : Text) (time : ℤ) (moment : ℕ) (day : ℤ) (o : Option Candidate) → IsCandidate t zone service time moment day o → HasOrigin o
candidate_has t zone service time moment day None h = tt
candidate_has t zone service time moment day (Some candidate) h = subst IsYearInRange (sym h.2) h.1

of_some : (o : Option Candidate) (day : ℤ) → Some day ≡ option_map (λ candidate. candidate.day.number) o → HasOrigin o → IsYearInRange day
of_some None day e h = absurd (cc e)
of_some (Some candidate) day e h = let same : candidate.day.number ≡ day = is day candidate.day.number e in subst IsYearInRange same h
  where
    is : (x y : ℤ) → Some x ≡ Some y → y ≡ x
    is x y e = cc e

module _ (t : Tables) (zone : PlainZone) (d : TripDescriptor) (moment : ℕ) (day : ℤ) where
  around : (service : Text) (time : ℤ) → IsNearestAround t zone service time moment (Some day) → IsYearInRange day
  around service time r = of_some _ day r.nearest
      (nearer_has (nearer r.before r.same) r.after
      (nearer_has r.before r.same (candidate_has t zone service time moment _ r.before r.is_before) (candidate_has t zone service time moment _ r.same r.is_same))
      (candidate_has t zone service time moment _ r.after r.is_after))

  of_nearest : (service : Text) (time : Option ℤ) → IsNearest t zone service moment time (Some day) → IsYearInRange day
  of_nearest service None h = absurd (cc h)
  of_nearest service (Some time) h = ⊎_elim (λ a. around service time a.1) (λ b. absurd (cc b.1)) h

  from_row : (id service : Text) (start_date start_time : Option (List ℕ)) → IsDayFrom t zone moment id service start_date start_time (Some day) → IsYearInRange day
  from_row id service None start_time h = of_nearest service (first_run t id start_time) h
  from_row id service (Some text) start_time h = h.1

  of_row : (id : Text) (row : Option (Only Trip)) → IsDayOfRow t zone d moment id row (Some day) → IsYearInRange day
  of_row id None h = absurd (cc h)
  of_row id (Some row) h = from_row id row.item.service d.start_date d.start_time h

  of_trip : (id : Option Text) → IsDayOfTrip t zone d moment id (Some day) → IsYearInRange day
  of_trip None h = absurd (cc h)
  of_trip (Some id) h = of_row id (get t.trips id) h

  pub service_day-in_range : IsServiceDay t zone d moment (Some day) → IsYearInRange day
  service_day-in_range h = of_trip d.trip_id h

-- ---- what the zero says of the shift
pub no_zero : (zone : PlainZone) (day : ℤ) (shift : Option ℤ) → HasZero zone day shift None → shift ≡ None
no_zero zone day None h = refl
no_zero zone day (Some shift) h = absurd h

pub a_zero : (zone : PlainZone) (day : ℤ) (shift : Option ℤ) (z : ℤ) → HasZero zone day shift (Some z) → (s : ℤ) × (shift ≡ Some s) × IsZeroOf zone day s z × IsZero z
a_zero zone day None z h = absurd (cc h)
a_zero zone day (Some s) z h = (s, refl, h.0, h.1)

pub has_zero : (zone : PlainZone) (day : ℤ) (shift : Option ℤ) (origin : ℤ) (o : Option ℤ) → IsOrigin zone day origin → o ≡ option_map (λ s. origin +ℤ s) shift → IfSome o IsZero
    → HasZero zone day shift o
has_zero zone day None origin o is e small = e
has_zero zone day (Some s) origin o is e small =
    subst (HasZero zone day (Some s)) (sym e) ((origin, is, refl), subst (λ x. IfSome x IsZero) e small)
