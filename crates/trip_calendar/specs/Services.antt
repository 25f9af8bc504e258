-- Days on which services run: GTFS Schedule Reference, "calendar.txt" and "calendar_dates.txt".
use Rattle.std.specs.Prelude.{ℕ, ◌/◌, ◌%◌, ◌^◌, ◌==◌, ℤ, int_le, Bool, false, ◌&&◌, Option, Some, None, option_map, option_and_then}
use Rattle.std.specs.FinMap.{get}
use Rattle.jiff_core.specs.Calendar.{weekday_number}
use Rattle.timetable.specs.Maps.{Text}
use Rattle.timetable.specs.Timetables.{Tables}
use Rattle.timetable.specs.declared.ServiceRow.{ServiceRow}

-- the bit of a weekday, where Monday is bit 0, is 1
abbrev pub has_weekday : (weekdays weekday : ℕ) → Bool
has_weekday weekdays weekday = (weekdays / 2 ^ weekday) % 2 == 1

-- a day lies from the first to the last, and its weekday is 1
abbrev pub has_day : ServiceRow → ℤ → Bool
has_day row day = int_le row.first.number day && int_le day row.last.number && has_weekday row.weekdays (weekday_number day)

abbrev pub in_calendar : Option ServiceRow → ℤ → Bool
in_calendar None day = false
in_calendar (Some row) day = has_day row day

-- an exception decides, and where there is none the calendar
abbrev pub runs_by : Option Bool → Option ServiceRow → ℤ → Bool
runs_by (Some added) row day = added
runs_by None row day = in_calendar row day

-- whether a service runs on a day
abbrev pub runs : Tables → Text → ℤ → Bool
runs t service day =
    runs_by (option_and_then (λ days. get days day) (get t.exceptions service)) (option_map (λ only. only.item) (get t.services service)) day
