-- Day numbers of real dates.
use Rattle.std.proofs.Common.{◌≡◌, ◌≤◌, ◌+◌, ℕ, pos, negsuc, true, Some, None, Result, Ok, Err, IfOk, cond, refl, sym, ap, ◌∙◌, arith, nat_le, unwrap_or, subst}
use Rattle.std.proofs.lemmas.Bool.Decides.{nat_tests}
use Rattle.std.specs.Prelude.{unsigned_abs}
use Rattle.std.specs.Result.{result_ok}
use Rattle.jiff.specs.Words.{IsYmd, epoch_day}
use Rattle.jiff_core.specs.Calendar.{day_count, days_from_civil, days_in_month}
use Rattle.jiff_core.specs.declared.civil.date.Date.{Date}
use Rattle.jiff_core.proofs.CalendarLemmas.{day_count-last_of_year, days_from_civil-day_count}
use Rattle.jiff_core.proofs.MarchLemmas.{day_count-early}
use Rattle.jiff_core.proofs.SignedLemmas.{signed_arith}
use Rattle.rt_day.specs.Date.{day_of, is_date}

le_true : (a b : ℕ) → a ≤ b → nat_le a b ≡ true
le_true a b h = grind (arith, nat_tests)

is_date-own : (date : Date) (y : ℕ) → date.year ≡ pos y → is_date y date.month date.day ≡ true
is_date-own date y e =
    let within : date.day ≤ days_in_month (pos y) date.month = subst (λ x. date.day ≤ days_in_month x date.month) e date.day_in.1 in
    rw (le_true 1 date.month date.month_in.0, le_true date.month 12 date.month_in.1, le_true 1 date.day date.day_in.0, le_true date.day (days_in_month (pos y) date.month) within) refl

-- a date that jiff has is the day of its year, month and day
pub day_of-date : (y m d : ℕ) (date : Date) → IsYmd (pos y) (pos m) (pos d) date → Some (epoch_day date) ≡ day_of y m d
day_of-date y m d date h =
    let month : date.month ≡ m = ap unsigned_abs h.1 in
    let day : date.day ≡ d = ap unsigned_abs h.2 in
    ap (λ x. Some (days_from_civil x date.month date.day)) h.0
    ∙ sym (ap (λ b. cond b (Some (days_from_civil (pos y) date.month date.day)) None) (is_date-own date y h.0))
    ∙ ap (λ x. day_of y x date.day) month ∙ ap (λ x. day_of y m x) day

pub made_ok : {X E : Type 0} (r : Result X E) (P : X → Type 0) (x : X) → result_ok r ≡ Some x → IfOk r P → P x
made_ok (Ok y) P x e h = subst P (ap (λ o. unwrap_or o x) e) h
made_ok (Err e') P x e h = cc e

-- the ends of the range of years
pub first_day : days_from_civil (pos 1000) 1 1 ≡ negsuc 354_284
first_day =
    let count : day_count (pos 1000) 1 1 ≡ 4_017_668 = day_count-early (pos 1000) 10999 1 1 refl (omega arith) (omega arith) (omega arith) in
    omega (arith, signed_arith, days_from_civil-day_count (pos 1000) 1 1)

pub last_day : days_from_civil (pos 9800) 12 31 ≡ pos 2_860_213
last_day =
    let january : day_count (pos 9800) 1 1 ≡ 7_231_802 = day_count-early (pos 9800) 19799 1 1 refl (omega arith) (omega arith) (omega arith) in
    let count : day_count (pos 9800) 12 31 + 1 ≡ day_count (pos 9800) 1 1 + 365 = day_count-last_of_year (pos 9800) in
    omega (arith, signed_arith, days_from_civil-day_count (pos 9800) 12 31)
