-- What the fields of a list may be. (This profile.)
pub use Rattle.rt_words.specs.Numbers.{below, number_of}
pub use Rattle.rt_words.specs.Paths.{is_path, path_of}
use Rattle.std.specs.Prelude.{ℕ, List, Option, option_and_then}

-- a feed is a number from 0 to 15
abbrev pub feed_of : List ℕ → Option ℕ
feed_of text = option_and_then (below 16) (number_of text)
