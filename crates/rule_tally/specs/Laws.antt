-- Laws of names with marks.
use Rattle.std.specs.Prelude.{◌≡◌, Bool, List, [], ◌∷◌, ℕ, Option, Some, None, if◌then◌else◌}
use Rattle.std.specs.Cmp.Lexicographic.{slice_cmp}
use Rattle.std.specs.List.Sorted.{IsStrictlySortedBy}
use Rattle.std.specs.Map.{keys_of, lookup}
use Rattle.std.specs.Ordering.{nat_cmp}
use Rattle.std.specs.Str.{bytes_eq}
use Rattle.rule_tally.specs.Names.{Marks, marks_of}

-- the mark that a name was given last, of marks that were given behind this one
abbrev pub last_mark : List ℕ → Option Bool → Marks → Option Bool
last_mark name mark [] = mark
last_mark name mark (g ∷ given) = last_mark name (if bytes_eq name g.0 then Some g.1 else mark) given

abbrev pub NamesHaveTheirLastMark : Type 0
NamesHaveTheirLastMark = (given : Marks) (name : List ℕ) → lookup (bytes_eq name) (marks_of given) ≡ last_mark name None given

-- so no name stands twice
abbrev pub NamesRise : Type 0
NamesRise = (given : Marks) → IsStrictlySortedBy (slice_cmp nat_cmp) (keys_of (marks_of given))
