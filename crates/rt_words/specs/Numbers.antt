-- Numbers that a person writes. (This profile.)
use Rattle.std.specs.Prelude.{ℕ, ◌^◌, List, nat_lt, Option, Some, None, option_and_then, if◌then◌else◌}
use Rattle.rt_day.specs.Digits as digits

-- a number below a bound
abbrev pub below : ℕ → ℕ → Option ℕ
below bound n = if nat_lt n bound then Some n else None

-- a number is 1 to 20 digits whose value fits 64 bits; it may begin with zeros
abbrev pub number_of : List ℕ → Option ℕ
number_of text = option_and_then (below (2 ^ 64)) (digits.number_of 1 20 text)
