-- What times and dates are, in words of their texts: GTFS Schedule Reference, "Field Types", Time and Date.
use Rattle.std.specs.Prelude.{◌≡◌, ℕ, ◌+◌, ◌*◌, ◌≤◌, ℤ, pos, true, List, ◌∷◌, ◌++◌, length, Some}
use Rattle.std.specs.Char.{is_ascii_digit}
use Rattle.std.specs.List.{list_all}
use Rattle.std.specs.Str.Parse.{digits_value}
use Rattle.jiff_core.specs.Calendar.{days_from_civil}
use Rattle.rt_day.specs.Time.{time_of}
use Rattle.rt_day.specs.Date.{is_date, date_of}

-- the text is from `least` to `most` digits that write the number
pub record Writes (least most : ℕ) (text : List ℕ) (number : ℕ) : Type 0 where
  pub enough : least ≤ length text
  pub few : length text ≤ most
  pub digits : list_all is_ascii_digit text ≡ true
  pub value : number ≡ digits_value 10 text

-- one to three digits, a colon, two digits up to 59, a colon and two digits up to 59; the time is their sum in seconds
pub record IsTime (text : List ℕ) (time : ℕ) : Type 0 where
  pub hours_text : List ℕ
  pub minutes_text : List ℕ
  pub seconds_text : List ℕ
  pub hours : ℕ
  pub minutes : ℕ
  pub seconds : ℕ
  pub parts : text ≡ hours_text ++ 58 ∷ (minutes_text ++ 58 ∷ seconds_text)
  pub writes_hours : Writes 1 3 hours_text hours
  pub writes_minutes : Writes 2 2 minutes_text minutes
  pub writes_seconds : Writes 2 2 seconds_text seconds
  pub minutes_fit : minutes ≤ 59
  pub seconds_fit : seconds ≤ 59
  pub sum : time ≡ hours * 3600 + minutes * 60 + seconds

-- four digits, two and two of a day that the calendar has; the number counts the days from 1970-01-01
pub record IsDate (text : List ℕ) (number : ℤ) : Type 0 where
  pub year_text : List ℕ
  pub month_text : List ℕ
  pub day_text : List ℕ
  pub year : ℕ
  pub month : ℕ
  pub day : ℕ
  pub parts : text ≡ year_text ++ (month_text ++ day_text)
  pub writes_year : Writes 4 4 year_text year
  pub writes_month : Writes 2 2 month_text month
  pub writes_day : Writes 2 2 day_text day
  pub real : is_date year month day ≡ true
  pub count : number ≡ days_from_civil (pos year) month day

abbrev pub TimesAreRead : Type 0
TimesAreRead = (text : List ℕ) (time : ℕ) → IsTime text time → time_of text ≡ Some time

abbrev pub ReadTimesAreTimes : Type 0
ReadTimesAreTimes = (text : List ℕ) (time : ℕ) → time_of text ≡ Some time → IsTime text time

abbrev pub DatesAreRead : Type 0
DatesAreRead = (text : List ℕ) (number : ℤ) → IsDate text number → date_of text ≡ Some number

abbrev pub ReadDatesAreDates : Type 0
ReadDatesAreDates = (text : List ℕ) (number : ℤ) → date_of text ≡ Some number → IsDate text number
