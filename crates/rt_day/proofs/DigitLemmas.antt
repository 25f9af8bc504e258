-- What `parse` reads from digits alone.
use Rattle.std.proofs.Common.{rules, refl, ◌≡◌, ◌≤◌, ◌<◌, ◌^◌, ◌-◌, ◌&&◌, ℕ, List, length, take, Bool, true, false, nat_le, Some, None, arith}
use Rattle.std.proofs.lemmas.Bool.Decides.{nat_tests}
use Rattle.std.proofs.lemmas.List.{length-take}
use Rattle.std.proofs.lemmas.Str.{digit_value_digit}
use Rattle.std.proofs.lemmas.Str.Parse.{IsNumeralModel, digits_value_short, numerals_by_value}
use Rattle.std.specs.Char.{is_ascii_digit, digit_value}
use Rattle.std.specs.List.{list_all}
use Rattle.std.specs.Str.Parse.{digits_value}
use Rattle.std.specs.Prelude.{IfSome, if◌then◌else◌}
use Rattle.rt_day.specs.Digits.{digits_of, is_digits}

pub decimal : IsNumeralModel (λ ds. list_all is_ascii_digit ds ≡ true) (digits_value 10)
decimal = numerals_by_value _ (search rules)

-- the three parts of the test
pub record AreDigits (least most : ℕ) (text : List ℕ) : Type 0 where
  pub enough : least ≤ length text
  pub few : length text ≤ most
  pub digits : list_all is_ascii_digit text ≡ true

pub parts : (least most : ℕ) (text : List ℕ) → is_digits least most text ≡ true → AreDigits least most text
parts least most text h = by (nat_le least (length text)) (nat_le (length text) most) refl refl h
  where
    by : (a b : Bool) → nat_le least (length text) ≡ a → nat_le (length text) most ≡ b → a && b && list_all is_ascii_digit text ≡ true → AreDigits least most text
    by true true enough few digits = record { enough = grind (arith, nat_tests, enough); few = grind (arith, nat_tests, few); digits = digits }
    by true false enough few e = cc e
    by false b enough few e = cc e

-- digits are below the power of ten of their most
pub digits_value-below : (least most : ℕ) (text : List ℕ) → is_digits least most text ≡ true → digits_value 10 text < 10 ^ most
digits_value-below least most text h =
    let p = parts least most text h in
    digits_value_short decimal text most p.digits p.few

-- what a digit's byte is worth
pub digit_is : (c : ℕ) → is_ascii_digit c ≡ true → (c - 48 ≡ digit_value c) × (48 ≤ c) × (c ≤ 57)
digit_is c h =
    let low : 48 ≤ c = grind (arith, nat_tests, h) in
    let high : c ≤ 57 = grind (arith, nat_tests, h) in
    let value = digit_value_digit c (low, high) in (omega (arith, value), low, high)

-- fewer than nineteen digits are far below what a number of 64 bits may be
pub digits_are_small : (text : List ℕ) (place : ℕ) → place < length text → length text ≤ 19 → list_all is_ascii_digit (take place text) ≡ true
    → digits_value 10 (take place text) < 10 ^ 18
digits_are_small text place within fits digits =
    let size = length-take place text in
    digits_value_short decimal (take place text) 18 digits (omega (arith, size))

pub digits_of-below : (text : List ℕ) (most : ℕ) → length text ≤ most → IfSome (digits_of text) (λ n. n < 10 ^ most)
digits_of-below text most few = by (list_all is_ascii_digit text) refl
  where
    by : (b : Bool) → list_all is_ascii_digit text ≡ b → IfSome (if b then Some (digits_value 10 text) else None) (λ n. n < 10 ^ most)
    by true digits = digits_value_short decimal text most digits few
    by false digits = tt
