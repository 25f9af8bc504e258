-- Dates of days that have an origin.
use Rattle.std.proofs.Common.{◌≡◌, ◌≤◌, ◌<◌, ◌+◌, ◌*◌, ◌/◌, ◌%◌, ◌^◌, ℕ, ℤ, pos, negsuc, ◌≤ℤ◌, length, true, Some, refl, sym, ap, ◌∙◌, arith, rules, inl, inr}
use Rattle.std.specs.Prelude.{unsigned_abs}
use Rattle.std.specs.Fmt.{decimal}
use Rattle.std.specs.Char.{is_ascii_digit}
use Rattle.std.specs.List.{list_all}
use Rattle.std.specs.Option.{option_and_then}
use Rattle.std.specs.Str.Parse.{digits_value}
use Rattle.std.proofs.lemmas.Bool.{cases_order}
use Rattle.std.proofs.lemmas.Int.{by_lt_z}
use Rattle.std.proofs.lemmas.Str.Parse.{digits_value_short}
use Rattle.std.proofs.lemmas.Fmt.{digits_decimal, digits_value-decimal, length-decimal-le}
use Rattle.jiff_core.specs.Calendar.{days_in_month}
use Rattle.jiff_core.specs.Date.{epoch_day}
use Rattle.jiff_core.specs.declared.civil.date.Date.{Date}
use Rattle.jiff_core.proofs.DateLemmas.{epoch_day-lt}
use Rattle.jiff_core.proofs.CalendarLemmas.{days_in_month_bounds}
use Rattle.jiff_core.proofs.SignedLemmas.{signed_arith}
use Rattle.rt_day.specs.Date.{IsYearInRange, date_of, day_of}
use Rattle.rt_day.specs.Digits.{number_of}
use Rattle.rt_day.proofs.DateLemmas.{day_of-date}
use Rattle.rt_day.proofs.SpellingLemmas.{written}
use Rattle.rt_day.proofs.DigitLemmas as digit

-- the ends of the range
first : Date
first = record { year = pos 1000; month = 1; day = 1; year_in = search rules; month_in = search rules; day_in = search rules }

last : Date
last = record { year = pos 9800; month = 12; day = 31; year_in = search rules; month_in = search rules; day_in = search rules }

-- the year of a day in range
pub year_from : (date : Date) → IsYearInRange (epoch_day date) → pos 1000 ≤ℤ date.year
unfolding first
year_from date h =
    by_lt_z date.year (pos 1000) (λ lt. absurd (omega (arith, signed_arith, h.0, epoch_day-lt date first (inl lt)))) (λ ge. ge)

pub year_to : (date : Date) → IsYearInRange (epoch_day date) → date.year ≤ℤ pos 9800
unfolding last
year_to date h =
    by_lt_z (pos 9800) date.year (λ lt. absurd (omega (arith, signed_arith, h.1, epoch_day-lt last date (inl lt)))) (λ ge. ge)

-- a number of eight digits is written by eight
module _ (n : ℕ) (low : 10_000_000 ≤ n) (high : n < 100_000_000) where
  digits : list_all is_ascii_digit (decimal n) ≡ true
  digits = digits_decimal digit.decimal n (omega arith)

  value : digits_value 10 (decimal n) ≡ n
  value = digits_value-decimal digit.decimal n (omega arith)

  few : length (decimal n) ≤ 8
  few = length-decimal-le 8 n (omega arith) (omega arith) (omega arith)

  enough : 8 ≤ length (decimal n)
  enough =
      elim (cases_order (length (decimal n)) 8) [
        | inl same ↦ omega arith
        | inr (inl lt) ↦
            let short : digits_value 10 (decimal n) < 10 ^ 7 = digits_value_short digit.decimal (decimal n) 7 digits (omega arith) in
            absurd (omega (arith, value, short))
        | inr (inr gt) ↦ omega arith
      ]

  number_of-decimal : number_of 8 8 (decimal n) ≡ Some n
  number_of-decimal = written 8 8 (decimal n) n (record { enough = enough; few = few; digits = digits; value = sym value })

-- the year, month and day of such a number
record AreParts (n y m d : ℕ) : Type 0 where
  is_year : n / 10000 ≡ y
  is_month : n / 100 % 100 ≡ m
  is_day : n % 100 ≡ d

parts : (n y m d : ℕ) → n ≡ y * 10000 + m * 100 + d → m < 100 → d < 100 → AreParts n y m d
parts n y m d e below_m below_d = record { is_year = omega arith; is_month = omega arith; is_day = omega arith }

not_negative : (z : ℤ) → pos 0 ≤ℤ z → z ≡ pos (unsigned_abs z)
not_negative (pos n) h = refl
not_negative (negsuc n) h = absurd (omega (arith, signed_arith))

-- a date's digits are read as its day
pub date_read : (date : Date) (n : ℕ) → pos 1000 ≤ℤ date.year → date.year ≤ℤ pos 9800 → n ≡ unsigned_abs date.year * 10000 + date.month * 100 + date.day →
    date_of (decimal n) ≡ Some (epoch_day date)
date_read date n low high is =
    let y = unsigned_abs date.year in
    let year : date.year ≡ pos y = not_negative date.year (omega (arith, signed_arith)) in
    let month : date.month ≤ 12 = date.month_in.1 in
    let day : date.day ≤ days_in_month date.year date.month = date.day_in.1 in
    let most : days_in_month date.year date.month ≤ 31 = (days_in_month_bounds date.year date.month).0 in
    let p = parts n y date.month date.day is (omega arith) (omega arith) in
    ap (option_and_then (λ k. day_of (k / 10000) (k / 100 % 100) (k % 100))) (number_of-decimal n (omega (arith, signed_arith)) (omega (arith, signed_arith)))
    ∙ ap (λ k. day_of k (n / 100 % 100) (n % 100)) p.is_year ∙ ap (λ k. day_of y k (n % 100)) p.is_month ∙ ap (day_of y date.month) p.is_day
    ∙ sym (day_of-date y date.month date.day date (year, refl, refl))
