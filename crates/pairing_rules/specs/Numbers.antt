-- Numbers of ids.
use Rattle.std.specs.Prelude.{◌≡◌, ◌<◌, ◌≤◌, ◌+◌, ◌^◌, ◌==◌, ℕ, Bool, true, false, List, Option, Some, None, option_and_then, option_map, is_some}

abbrev pub Numbers : Type 0
Numbers = List ℕ → Option ℕ

-- the number of an id that is given
abbrev pub number_of : Numbers → Option (List ℕ) → Option ℕ
number_of numbers id = option_and_then numbers id

abbrev pub is_number : ℕ → Option ℕ → Bool
is_number n None = false
is_number n (Some m) = m == n

-- whether an id that is given has a number
abbrev pub is_named : Numbers → Option (List ℕ) → Bool
is_named numbers None = true
is_named numbers (Some id) = is_some (numbers id)

-- the number of an id that may be given, unless it is given and has none
abbrev pub numbered : Numbers → Option (List ℕ) → Option (Option ℕ)
numbered numbers None = Some None
numbered numbers (Some id) = option_map Some (numbers id)

-- a number, where something is given beside it, and where nothing is
abbrev pub where_given : {A : Type 0} → Option A → Option ℕ → Option ℕ
where_given None n = None
where_given (Some x) n = n

abbrev pub where_missing : {A : Type 0} → Option A → Option ℕ → Option ℕ
where_missing None n = n
where_missing (Some x) n = None

-- each number is of one text, and none is below the last one that was given
pub record AreApart (number : List ℕ → Option ℕ) (last : ℕ) : Type 0 where
  pub from_last : (text : List ℕ) (n : ℕ) → number text ≡ Some n → last ≤ n
  pub below : (text : List ℕ) (n : ℕ) → number text ≡ Some n → n + 1 < 2 ^ 32
  pub apart : (text other : List ℕ) (n : ℕ) → number text ≡ Some n → number other ≡ Some n → text ≡ other
