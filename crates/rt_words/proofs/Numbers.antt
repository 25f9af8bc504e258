-- What `parse` reads of a text of digits.
use Rattle.std.proofs.Common.{◌≡◌, ℕ, ◌<◌, ◌≤◌, ◌^◌, List, length, Bool, true, false, cond, ◌&&◌, nat_le, nat_lt, Some, None, refl, ap, arith, rules, Result, Ok, Err}
use Rattle.std.specs.Prelude.{option_and_then}
use Rattle.std.specs.Char.{is_ascii_digit}
use Rattle.std.specs.List.{list_all}
use Rattle.std.specs.Result.{OkIff, result_ok}
use Rattle.std.specs.Str.Parse.{digits_value, digits_value_after, ParsesUnsigned}
use Rattle.std.proofs.lemmas.Bool.Decides.{nat_tests}
use Rattle.std.proofs.lemmas.Str.Parse.{IsNumeralModel, numerals_by_fold, parse_digits}
use Rattle.rt_day.specs.Digits.{is_digits}
use Rattle.rt_words.specs.Numbers.{below, number_of}

digits_are_numerals : IsNumeralModel (λ text. list_all is_ascii_digit text ≡ true) (digits_value 10)
digits_are_numerals = numerals_by_fold _ (search rules) (digits_value_after 10) (search rules)

few_digits : (n : ℕ) (digits : Bool) → digits ≡ true → n ≤ 20 → 0 < n → (nat_le 1 n && nat_le n 20 && digits) ≡ true
few_digits n digits are short some = grind (arith, nat_tests)

fits : (v : ℕ) → v < 2 ^ 64 → nat_lt v (2 ^ 64) ≡ true
fits v lt = grind (arith, nat_tests)

no_number : (n v : ℕ) (digits : Bool) → ((0 < n) × (v < 2 ^ 64) → ⊥) → ((nat_le 1 n && nat_le n 20 && digits) && nat_lt v (2 ^ 64)) ≡ false
no_number n v digits none = grind (arith, nat_tests)

tested : (text : List ℕ) → number_of text ≡ cond (is_digits 1 20 text && nat_lt (digits_value 10 text) (2 ^ 64)) (Some (digits_value 10 text)) None
tested text = by (is_digits 1 20 text) (digits_value 10 text)
  where
    by : (digits : Bool) (v : ℕ) → option_and_then (below (2 ^ 64)) (cond digits (Some v) None) ≡ cond (digits && nat_lt v (2 ^ 64)) (Some v) None
    by true v = refl
    by false v = refl

read : {E : Type 0} (text : List ℕ) (r : Result ℕ E) → list_all is_ascii_digit text ≡ true → length text ≤ 20
    → OkIff r ((0 < length text) × (digits_value 10 text < 2 ^ 64)) (digits_value 10 text) → result_ok r ≡ number_of text
read text (Ok n) are short is = rw (tested text, few_digits (length text) _ are short is.0.0, fits (digits_value 10 text) is.0.1) (ap Some is.1)
read text (Err e) are short none = rw (tested text, no_number (length text) (digits_value 10 text) (list_all is_ascii_digit text) none) refl

-- what `parse` reads of at most 20 digits is their number
pub parsed : {E : Type 0} (text : List ℕ) (r : Result ℕ E) → list_all is_ascii_digit text ≡ true → length text ≤ 20 → ParsesUnsigned 64 10 text r → result_ok r ≡ number_of text
parsed text r are short parses = read text r are short (parse_digits digits_are_numerals 64 text r parses are)
