-- Noon, and whole seconds.
use Rattle.std.proofs.lemmas.Int.{to_z-of_z}
use Rattle.std.proofs.Common.{FitsSigned, w64, to_z, of_z, ◌≡◌, ℕ, ℤ, pos, negsuc, ◌+ℤ◌, ◌-ℤ◌, ◌*ℤ◌, ◌≤ℤ◌, ◌<ℤ◌, int_div, arith, ◌∙◌, sym}
use Rattle.jiff.proofs.Family.{civil_nanos-parts, time_nanos_bound}
use Rattle.jiff.proofs.SpanFacts.{signed_arith}
use Rattle.jiff.specs.Words.{IsHms, IsTimestampNanos, civil_nanos, epoch_day, instant_of, nanos_of_seconds, time_nanos}
use Rattle.jiff_core.specs.declared.civil.datetime.DateTime.{DateTime}
use Rattle.jiff_core.specs.declared.civil.time.Time.{Time}
use Rattle.jiff_core.specs.declared.offset.Offset.{Offset}
use Rattle.jiff_core.specs.Calendar.{IsBetween}
use Rattle.rt_day.specs.Date.{IsYearInRange}
use Rattle.rt_day.proofs.DateLemmas.{first_day, last_day}
use Rattle.trip_calendar.specs.Zones.{IsNoon}

-- the days that have an origin, as numbers
abbrev pub HasOrigin : ℤ → Type 0
HasOrigin day = IsBetween (negsuc 354_284) (pos 2_860_213) day

pub has_origin : (day : ℤ) → IsYearInRange day → HasOrigin day
has_origin day h = (rw (← first_day) h.0, rw (← last_day) h.1)

pub noon_time : (t : Time) → IsHms (pos 12) (pos 0) (pos 0) (pos 0) t → time_nanos t ≡ 43_200_000_000_000
noon_time t h = omega (arith, signed_arith, h.0, h.1, h.2, h.3)

-- the instant of a day's noon, in whole seconds
pub noon_instant : (day : ℤ) (noon : DateTime) (offset : Offset) → IsNoon day noon
    → instant_of noon offset ≡ nanos_of_seconds (day *ℤ pos 86_400 +ℤ pos 43_200 -ℤ offset.seconds)
noon_instant day noon offset h = rw (civil_nanos-parts noon, h.0, h.1) (omega (arith, signed_arith))

-- it lies within the library's instants
pub noon_is_instant : (day : ℤ) (noon : DateTime) (offset : Offset) → HasOrigin day → IsNoon day noon → IsTimestampNanos (instant_of noon offset)
noon_is_instant day noon offset within h = rw (noon_instant day noon offset h) (omega (arith, signed_arith, within.0, within.1, offset.in_range), omega (arith, signed_arith, within.0, within.1, offset.in_range))

pub whole_seconds : (k : ℤ) → int_div (nanos_of_seconds k) (pos 1_000_000_000) ≡ k
whole_seconds k = omega (arith, signed_arith)

-- half a day less and half a day more, in 64 bits
pub half_day_back : (day : ℤ) (offset : Offset) → HasOrigin day → let k : ℤ = day *ℤ pos 86_400 +ℤ pos 43_200 -ℤ offset.seconds in
    to_z w64 (of_z w64 (to_z w64 (of_z w64 k) -ℤ pos 43_200)) +ℤ pos 43_200 ≡ k
half_day_back day offset within =
    let k : ℤ = day *ℤ pos 86_400 +ℤ pos 43_200 -ℤ offset.seconds in
    let fits : FitsSigned w64 k = omega (arith, signed_arith, within.0, within.1, offset.in_range) in
    let less : FitsSigned w64 (k -ℤ pos 43_200) = omega (arith, signed_arith, within.0, within.1, offset.in_range) in
    rw (to_z-of_z w64 k fits, to_z-of_z w64 (k -ℤ pos 43_200) less) (omega (arith, signed_arith))

-- a clock's date, from its nanoseconds
pub clock_day : (dt : DateTime) (moment : ℕ) (offset : ℤ) → civil_nanos dt ≡ nanos_of_seconds (pos moment) +ℤ nanos_of_seconds offset
    → ((epoch_day dt.date *ℤ pos 86_400) ≤ℤ (pos moment +ℤ offset)) × ((pos moment +ℤ offset) <ℤ ((epoch_day dt.date +ℤ pos 1) *ℤ pos 86_400))
clock_day dt moment offset e =
    let parts = sym (civil_nanos-parts dt) ∙ e in
    let bound = time_nanos_bound dt.time in
    (omega (arith, signed_arith, parts, bound), omega (arith, signed_arith, parts, bound))
