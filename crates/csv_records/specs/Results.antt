-- One answer after another, up to the first fault.
use Rattle.std.specs.Prelude.{Option, Some, None, Result, Ok, Err}

-- what follows a value; a fault stays
abbrev pub then_with : {A B E : Type 0} → Result A E → (A → Result B E) → Result B E
then_with (Ok a) f = f a
then_with (Err e) f = Err e

-- a value that has to be there, or else a fault
abbrev pub ok_or : {A E : Type 0} → Option A → E → Result A E
ok_or (Some a) e = Ok a
ok_or None e = Err e
