-- Numbers in decimal are read as they are.
use Rattle.std.proofs.Common.{◌≡◌, ◌<◌, ◌≤◌, ◌^◌, ◌&&◌, ℕ, length, Bool, true, Some, decimal, nat_le, refl, arith, lt-ltb}
use Rattle.std.specs.Char.{is_ascii_digit}
use Rattle.std.specs.List.{list_all}
use Rattle.std.proofs.lemmas.Bool.Decides.{nat_tests}
use Rattle.std.proofs.lemmas.Fmt.{decimal_nonempty, digits_decimal, digits_value-decimal, length-decimal-le}
use Rattle.rt_day.proofs.DigitLemmas as digit
use Rattle.rt_words.specs.Numbers.{below, number_of}
use Rattle.finding_names.specs.Numbers.{u8_named, u32_named}

short : (n : ℕ) (are : Bool) → are ≡ true → 0 < n → n ≤ 20 → (nat_le 1 n && nat_le n 20 && are) ≡ true
short n are h some few = grind (arith, nat_tests)

pub fits : (n bound : ℕ) → n < bound → below bound n ≡ Some n
fits n bound h = rw (lt-ltb n bound h) refl

pub number_read : (n : ℕ) → n < 2 ^ 64 → number_of (decimal n) ≡ Some n
number_read n h =
    let within : n < 10 ^ 20 = omega arith in
    let few : length (decimal n) ≤ 20 = length-decimal-le 20 n (omega arith) within h in
    rw (short (length (decimal n)) (list_all is_ascii_digit (decimal n)) (digits_decimal digit.decimal n h) (decimal_nonempty n h) few)
    (rw (digits_value-decimal digit.decimal n h) (fits n (2 ^ 64) h))

pub u32_read : (n : ℕ) → n < 2 ^ 32 → u32_named (decimal n) ≡ Some n
u32_read n h = rw (number_read n (omega arith)) (fits n (2 ^ 32) h)

pub u8_read : (n : ℕ) → n < 2 ^ 8 → u8_named (decimal n) ≡ Some n
u8_read n h = rw (number_read n (omega arith)) (fits n (2 ^ 8) h)
