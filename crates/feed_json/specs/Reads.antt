-- What a function that reads a tree answers, want of memory aside.
use Rattle.std.specs.Prelude.{◌≡◌, ◌≢◌, Result, Ok, Err}
use Rattle.feed_json.specs.declared.json_fault.JsonFault.{JsonFault}
use Rattle.feed_json.specs.declared.json_fault.JsonFault.TheVariants.{Memory}

-- `expected` is answered, where `value` is what an answer holds
abbrev pub Reads : {T A : Type 0} → (T → A) → Result A JsonFault → Result T JsonFault → Type 0
Reads value expected (Ok x) = expected ≡ Ok (value x)
Reads value expected (Err e) = e ≢ Memory → expected ≡ Err e
