-- A number of seconds that may be missing, held as one number.
use Rattle.std.specs.Prelude.{◌≡◌, ℕ, ◌==◌, Bool, true, false, Option, Some, None, if◌then◌else◌, unwrap_or, cond, refl}
use Rattle.std.proofs.Common.{sym, ap}
use Rattle.std.proofs.lemmas.Bool.{eqb-true}
use Rattle.schedule_rows.specs.declared.optional_time.OptionalTime.TheInside.{Inside}

-- the greatest number of 32 bits stands for none
abbrev pub missing : ℕ
missing = 4_294_967_295

abbrev pub seconds_in : Inside → Option ℕ
seconds_in time = if time.seconds == missing then None else Some time.seconds

abbrev pub held_as : Option ℕ → Inside
held_as time = record { seconds = unwrap_or time missing }

-- what is held gives the time back, and the time what is held
pub held_as-seconds_in : (time : Inside) → held_as (seconds_in time) ≡ time
held_as-seconds_in time = ap held (by (time.seconds == missing) refl)
  where
    held : ℕ → Inside
    held seconds = record { seconds = seconds }

    by : (b : Bool) → (time.seconds == missing) ≡ b → unwrap_or (cond b None (Some time.seconds)) missing ≡ time.seconds
    by true is = sym (eqb-true time.seconds missing is)
    by false is = refl
