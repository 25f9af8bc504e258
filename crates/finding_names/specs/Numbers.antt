-- Numbers within bounds, by the digits that write them. (This profile.)
use Rattle.std.specs.Prelude.{ℕ, ◌^◌, List, Option, option_and_then}
use Rattle.rt_words.specs.Numbers.{below, number_of}

-- of at most 32 bits
abbrev pub u32_named : List ℕ → Option ℕ
u32_named text = option_and_then (below (2 ^ 32)) (number_of text)

-- of at most 8 bits
abbrev pub u8_named : List ℕ → Option ℕ
u8_named text = option_and_then (below (2 ^ 8)) (number_of text)
