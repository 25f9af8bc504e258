-- Times of a service day: GTFS Schedule Reference, "Field Types", Time.
use Rattle.std.specs.Prelude.{ℕ, ◌+◌, ◌*◌, ◌==◌, Bool, nat_le, List, Option, Some, None, if◌then◌else◌, option_and_then}
use Rattle.std.specs.List.{after_first, before_first}
use Rattle.rt_day.specs.Digits.{number_of}

abbrev pub is_colon : ℕ → Bool
is_colon b = b == 58

-- two digits up to 59
abbrev pub sixtieth_of : List ℕ → Option ℕ
sixtieth_of text = option_and_then (λ n. if nat_le n 59 then Some n else None) (number_of 2 2 text)

-- in seconds, where hours, minutes and seconds are all there
abbrev pub seconds_of : (hours minutes seconds : Option ℕ) → Option ℕ
seconds_of (Some hours) (Some minutes) (Some seconds) = Some (hours * 3600 + minutes * 60 + seconds)
seconds_of (Some hours) (Some minutes) None = None
seconds_of (Some hours) None seconds = None
seconds_of None minutes seconds = None

-- one to three digits, a colon, two digits up to 59, a colon, two digits up to 59
abbrev pub time_of : List ℕ → Option ℕ
time_of text =
    let rest = after_first is_colon text in
    seconds_of (number_of 1 3 (before_first is_colon text)) (sixtieth_of (before_first is_colon rest)) (sixtieth_of (after_first is_colon rest))
