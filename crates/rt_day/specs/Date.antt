-- Dates as YYYYMMDD: GTFS Schedule Reference, "Field Types", Date.
use Rattle.std.specs.Prelude.{ℕ, ◌/◌, ◌%◌, ℤ, pos, Bool, ◌&&◌, nat_le, List, Option, Some, None, if◌then◌else◌, option_and_then}
use Rattle.jiff_core.specs.Calendar.{IsBetween, days_from_civil, days_in_month}
use Rattle.rt_day.specs.Digits.{number_of}

-- whether the calendar has a day, of a year from 0 on
abbrev pub is_date : (year month day : ℕ) → Bool
is_date year month day = nat_le 1 month && nat_le month 12 && nat_le 1 day && nat_le day (days_in_month (pos year) month)

-- the day number of a year, month and day, if the calendar has that day
abbrev pub day_of : (year month day : ℕ) → Option ℤ
day_of year month day = if is_date year month day then Some (days_from_civil (pos year) month day) else None

-- eight digits YYYYMMDD of a real date of the Gregorian calendar, as its day number from 1970-01-01
abbrev pub date_of : List ℕ → Option ℤ
date_of text = option_and_then (λ n. day_of (n / 10000) (n / 100 % 100) (n % 100)) (number_of 8 8 text)

-- a day from 1000-01-01 to 9800-12-31
abbrev pub IsYearInRange : ℤ → Type 0
IsYearInRange day = IsBetween (days_from_civil (pos 1000) 1 1) (days_from_civil (pos 9800) 12 31) day
