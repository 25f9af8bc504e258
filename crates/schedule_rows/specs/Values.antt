-- What may stand in a cell: GTFS Schedule Reference, "Field Types" and the fields' own values. The bounds on
-- lengths are this profile's.
use Rattle.std.specs.Prelude.{ℕ, ◌^◌, List, true, false, codes, nat_le, nat_lt, Option, Some, None, option_and_then, option_map, if◌then◌else◌}
use Rattle.std.specs.Str.{bytes_eq}
use Rattle.rt_day.specs.Date.{date_of}
use Rattle.rt_day.specs.Digits.{number_of}
use Rattle.rt_day.specs.declared.day.Day.{Day}
use Rattle.schedule_rows.specs.declared.change.Change.{Change}
use Rattle.schedule_rows.specs.declared.flag.Flag.{Flag}
use Rattle.schedule_rows.specs.declared.headway.Headway.{Headway}
use Rattle.schedule_rows.specs.declared.location_type.LocationType.{LocationType}
use Rattle.schedule_rows.specs.declared.sequence.Sequence.{Sequence}

-- 0 or 1
abbrev pub flag_of : List ℕ → Option Flag
flag_of text =
    if bytes_eq text (codes "0") then Some (record { 0 = false })
    else if bytes_eq text (codes "1") then Some (record { 0 = true })
    else None

-- 1 adds a day, 2 removes it
abbrev pub change_of : List ℕ → Option Change
change_of text =
    if bytes_eq text (codes "1") then Some (record { 0 = true })
    else if bytes_eq text (codes "2") then Some (record { 0 = false })
    else None

-- one to three digits
abbrev pub location_type_of : List ℕ → Option LocationType
location_type_of text = option_map (λ n. record { 0 = n }) (number_of 1 3 text)

-- one to ten digits that fit 32 bits
abbrev pub sequence_of : List ℕ → Option Sequence
sequence_of text = option_and_then (λ n. if nat_lt n (2 ^ 32) then Some (record { 0 = n }) else None) (number_of 1 10 text)

-- one to six digits, and at least 1
abbrev pub headway_of : List ℕ → Option Headway
headway_of text = option_and_then (λ n. if nat_le 1 n then Some (record { 0 = n }) else None) (number_of 1 6 text)

-- a date, as its day
abbrev pub calendar_day : List ℕ → Option Day
calendar_day text = option_map (λ n. record { number = n }) (date_of text)
