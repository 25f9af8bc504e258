-- The offsets of a rule are those of its text.
use Rattle.std.proofs.Common.{◌≡◌, ℤ, pos, Option, Some, None, Bool, true, false, cond, option_map, refl, ap, ◌∙◌}
use Rattle.jiff_tz.specs.PosixRule as Posix
use Rattle.jiff_tz.specs.PosixRule.{in_window, match_some, rule_nanos, utc_window}
use Rattle.jiff_tz.specs.PosixText.{dst_view, tz_view}
use Rattle.jiff_tz.specs.Year.{year_of_nanos}
use Rattle.jiff_tz.specs.declared.posix.Dst.{Dst}
use Rattle.jiff_tz.specs.declared.posix.TimeZone.{TimeZone}
use Rattle.jiff_core.specs.declared.Offset.{Offset}
use Rattle.std.specs.Prelude.{int_lt}
use Rattle.jiff_tz.specs.declared.ambiguous.AmbiguousOffset.TheVariants.{Unambiguous}
use Rattle.trip_calendar.specs.Views.{ahead_at, behind_at, chosen_at, chosen_by, moment_in, seconds_at, window_in}
use Rattle.jiff_core.specs.DateTime.{civil_nanos}
use Rattle.jiff_core.specs.declared.civil.datetime.DateTime.{DateTime}
use Rattle.jiff_tz.specs.Ambiguous.{compatible_offset}
use Rattle.jiff_tz.specs.declared.ambiguous.AmbiguousOffset.{AmbiguousOffset}

window_same : (d : Dst) (y : ℤ) (std : Offset) → utc_window d y std ≡ window_in (dst_view d) y std.seconds
unfolding utc_window rule_nanos
window_same d y std = refl

by_test : (b : Bool) (d : Dst) (std : Offset) → (match_some (cond b (Some d) None) std (λ e. e.offset)).seconds ≡ cond b d.offset.seconds std.seconds
by_test true d std = refl
by_test false d std = refl

by_dst : (std : Offset) (o : Option Dst) (n : ℤ) → (match_some (Posix.dst_at_by std o n) std (λ d. d.offset)).seconds
    ≡ match_some o std.seconds (λ d. cond (in_window (utc_window d (year_of_nanos n) std) n) d.offset.seconds std.seconds)
by_dst std None n = refl
by_dst std (Some d) n = by_test (in_window (utc_window d (year_of_nanos n) std) n) d std

view_dst : (o : Option Dst) (std : Offset) (n : ℤ) → match_some o std.seconds (λ d. cond (in_window (utc_window d (year_of_nanos n) std) n) d.offset.seconds std.seconds)
    ≡ match_some (option_map dst_view o) std.seconds (λ d. cond (in_window (window_in d (year_of_nanos n) std.seconds) n) d.seconds std.seconds)
view_dst None std n = refl
view_dst (Some d) std n = ap (λ w. cond (in_window w n) d.offset.seconds std.seconds) (window_same d (year_of_nanos n) std)

pub seconds_same : (tz : TimeZone) (n : ℤ) → (Posix.offset_at tz n).seconds ≡ seconds_at (tz_view tz) n
seconds_same tz n = by_dst tz.std_offset tz.dst n ∙ view_dst tz.dst tz.std_offset n

chosen_if : (b : Bool) (x y : AmbiguousOffset) → (compatible_offset (cond b x y)).seconds ≡ cond b (compatible_offset x).seconds (compatible_offset y).seconds
chosen_if true x y = refl
chosen_if false x y = refl

behind_same : (std dst : Offset) (w : ℤ × ℤ) (at : ℤ) → (compatible_offset (Posix.ambiguous_behind std dst w at)).seconds ≡ behind_at std.seconds dst.seconds w at
behind_same std dst w at = rw (chosen_if, chosen_if, chosen_if)

ahead_same : (std dst : Offset) (w : ℤ × ℤ) (at : ℤ) → (compatible_offset (Posix.ambiguous_ahead std dst w at)).seconds ≡ ahead_at std.seconds dst.seconds w at
ahead_same std dst w at = rw (chosen_if, chosen_if, chosen_if)

by_same : (std dst : Offset) (w : ℤ × ℤ) (at : ℤ) → (compatible_offset (Posix.ambiguous_by std dst w at)).seconds ≡ chosen_by std.seconds dst.seconds w at
by_same std dst w at =
    let less = int_lt dst.seconds std.seconds in
    let more = int_lt std.seconds dst.seconds in
    let rest = chosen_if more (Posix.ambiguous_ahead std dst w at) (Unambiguous std) ∙ ap (λ s. cond more s std.seconds) (ahead_same std dst w at) in
    chosen_if less (Posix.ambiguous_behind std dst w at) (cond more (Posix.ambiguous_ahead std dst w at) (Unambiguous std))
    ∙ (λ i. cond less (behind_same std dst w at i) (rest i))

chosen_dst : (std : Offset) (o : Option Dst) (dt : DateTime) → (compatible_offset (Posix.ambiguous_at_by std o dt)).seconds
    ≡ match_some (option_map dst_view o) std.seconds (λ d. chosen_by std.seconds d.seconds (moment_in dt.date.year d.start (pos 0), moment_in dt.date.year d.finish (pos 0)) (civil_nanos dt))
unfolding rule_nanos
chosen_dst std None dt = refl
chosen_dst std (Some d) dt = by_same std d.offset (rule_nanos dt.date.year d.rule.start (pos 0), rule_nanos dt.date.year d.rule.end (pos 0)) (civil_nanos dt)

pub chosen_same : (tz : TimeZone) (dt : DateTime) → (compatible_offset (Posix.ambiguous_at tz dt)).seconds ≡ chosen_at (tz_view tz) dt.date.year (civil_nanos dt)
chosen_same tz dt = chosen_dst tz.std_offset tz.dst dt
