-- Fields as text, and borrowed text as its bytes.
use Rattle.std.specs.Prelude.{ℕ, List, Option, Some, None, Result, Ok, Err, if◌then◌else◌}
use Rattle.std.specs.Borrow.{Bor}
use Rattle.std.specs.Str.{is_utf8}

abbrev pub texts : {E : Type 0} → Result (Bor (List ℕ)) E → Result (List ℕ) E
texts (Ok text) = Ok text.now
texts (Err e) = Err e

-- the bytes of a text, where they are one
abbrev pub text_of : List ℕ → Option (List ℕ)
text_of bytes = if is_utf8 bytes then Some bytes else None
