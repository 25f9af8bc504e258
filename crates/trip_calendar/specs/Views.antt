-- The offsets of a POSIX rule, by what its text reads as. (POSIX, "Environment Variables", TZ.)
use Rattle.std.specs.Prelude.{ℤ, pos, ◌-ℤ◌, ◌+ℤ◌, ◌*ℤ◌, ◌&&◌, ◌||◌, not, int_lt, if◌then◌else◌}
use Rattle.jiff_tz.specs.PosixRule.{clamp_to, first_nanosecond, in_span, in_window, int_same, last_nanosecond, match_some, nanos_per_day, rule_day, saturating_add, saturating_sub}
use Rattle.jiff_tz.specs.PosixText.{DstText, TzText}
use Rattle.jiff_tz.specs.Year.{year_of_nanos}
use Rattle.jiff_tz.specs.declared.posix.Day.{Day}
use Rattle.jiff_core.specs.Timestamp.{nanos_of_seconds}

-- when a moment of the text falls in the year
abbrev pub moment_in : ℤ → Day × ℤ → ℤ → ℤ
moment_in y d seconds = match_some (rule_day y d.0) (last_nanosecond y) (λ day.
    clamp_to (first_nanosecond y) (last_nanosecond y)
    (day *ℤ nanos_per_day +ℤ nanos_of_seconds (d.1 -ℤ seconds)))

abbrev pub window_in : DstText → ℤ → ℤ → ℤ × ℤ
window_in d y std =
    let start : ℤ = moment_in y d.start std in
    let end : ℤ = moment_in y d.finish d.seconds in
    let shifted : ℤ = saturating_add end (nanos_of_seconds std) in
    if int_same start (first_nanosecond y)
    && (int_lt shifted (first_nanosecond y) || int_lt (last_nanosecond y) shifted)
    then (start, last_nanosecond y)
    else (start, end)

-- the offset at an instant, in seconds
abbrev pub seconds_at : TzText → ℤ → ℤ
seconds_at tz n = match_some tz.dst tz.std_seconds (λ d. if in_window (window_in d (year_of_nanos n) tz.std_seconds) n then d.seconds else tz.std_seconds)

-- the offset before a transition of a moment on the wall clock, in seconds
abbrev pub behind_at : ℤ → ℤ → ℤ × ℤ → ℤ → ℤ
behind_at std dst w at =
    let shift : ℤ = nanos_of_seconds dst -ℤ nanos_of_seconds std in
    if in_window w at then dst
    else (if in_span (saturating_add w.0 shift) w.0 at then std
    else (if in_span w.1 (saturating_sub w.1 shift) at then dst
    else std))

abbrev pub ahead_at : ℤ → ℤ → ℤ × ℤ → ℤ → ℤ
ahead_at std dst w at =
    let shift : ℤ = nanos_of_seconds dst -ℤ nanos_of_seconds std in
    if not (in_window w at) then std
    else (if in_span w.0 (saturating_add w.0 shift) at then std
    else (if in_span (saturating_sub w.1 shift) w.1 at then dst
    else dst))

abbrev pub chosen_by : ℤ → ℤ → ℤ × ℤ → ℤ → ℤ
chosen_by std dst w at = if int_lt dst std then behind_at std dst w at else (if int_lt std dst then ahead_at std dst w at else std)

-- the compatible offset of a civil datetime of a year, in seconds
abbrev pub chosen_at : TzText → ℤ → ℤ → ℤ
chosen_at tz y at = match_some tz.dst tz.std_seconds (λ d. chosen_by tz.std_seconds d.seconds (moment_in y d.start (pos 0), moment_in y d.finish (pos 0)) at)
