-- The fields of a record, found by the header's names and without blanks at their ends.
use Rattle.std.specs.Prelude.{ℕ, ◌==◌, List, [], ◌∷◌, Bool, ◌||◌, if◌then◌else◌, Option, Some, None, option_and_then, unwrap_or}
use Rattle.std.specs.List.{position_from}
use Rattle.std.specs.Str.{bytes_eq}
use Rattle.csv.specs.Records.{field_at}
use Rattle.csv_records.specs.Records.{Record}

-- a space or a tab
abbrev pub is_blank : ℕ → Bool
is_blank b = (b == 32) || (b == 9)

-- without the blanks at the front
abbrev pub trim_front : List ℕ → List ℕ
trim_front [] = []
trim_front (b ∷ rest) = if is_blank b then trim_front rest else b ∷ rest

-- a byte before what is left of those after it
abbrev pub before_rest : ℕ → List ℕ → List ℕ
before_rest b [] = if is_blank b then [] else b ∷ []
before_rest b (c ∷ rest) = b ∷ c ∷ rest

-- without the blanks at the back
abbrev pub trim_back : List ℕ → List ℕ
trim_back [] = []
trim_back (b ∷ rest) = before_rest b (trim_back rest)

abbrev pub trimmed : List ℕ → List ℕ
trimmed bytes = trim_back (trim_front bytes)

abbrev pub is_named : List ℕ → List ℕ → Bool
is_named name field = bytes_eq name (trimmed field)

-- the place of the first field of this name in the header
abbrev pub place_of : List ℕ → Record → Option ℕ
place_of name header = position_from (is_named name) 0 header

-- a row's field at a place, and blank where there is no place or the row is short
abbrev pub field_in : Option ℕ → Record → List ℕ
field_in place row = trimmed (unwrap_or (option_and_then (field_at row) place) [])
