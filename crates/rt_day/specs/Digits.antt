-- Numbers as decimal digits without a sign.
use Rattle.std.specs.Prelude.{ℕ, Bool, ◌&&◌, nat_le, List, length, Option, Some, None, if◌then◌else◌}
use Rattle.std.specs.Char.{is_ascii_digit}
use Rattle.std.specs.List.{list_all}
use Rattle.std.specs.Str.Parse.{digits_value}

-- from `least` to `most` digits, and nothing else
abbrev pub is_digits : (least most : ℕ) → List ℕ → Bool
is_digits least most text = nat_le least (length text) && nat_le (length text) most && list_all is_ascii_digit text

-- the number that so many digits write; leading zeros count as digits
abbrev pub number_of : (least most : ℕ) → List ℕ → Option ℕ
number_of least most text = if is_digits least most text then Some (digits_value 10 text) else None

-- the number that a text of digits alone writes
abbrev pub digits_of : List ℕ → Option ℕ
digits_of text = if list_all is_ascii_digit text then Some (digits_value 10 text) else None
