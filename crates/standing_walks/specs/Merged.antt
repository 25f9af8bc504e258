-- Lists in order by the rules' numbers, merged. Of two that come first the one of the lesser number is taken first, and of one number that of the
-- first list.
use Rattle.std.specs.Prelude.{ℕ, nat_le, List, [], ◌∷◌, Option, Some, None, if◌then◌else◌}
use Rattle.rule_table.specs.Rules.{rule_number}
use Rattle.rule_history.specs.Standing.{Standing}

-- the number of a standing's rule
abbrev pub number : Standing → ℕ
number x = rule_number x.finding.rule

-- a first standing, and what merges those behind it with a list, merged with that list
abbrev pub with_first : Standing → (List Standing → List Standing) → List Standing → List Standing
with_first x rest [] = x ∷ rest []
with_first x rest (y ∷ ys) = if nat_le (number x) (number y) then x ∷ rest (y ∷ ys) else y ∷ with_first x rest ys

abbrev pub merged : List Standing → List Standing → List Standing
merged [] ys = ys
merged (x ∷ xs) ys = with_first x (merged xs) ys

-- four lists as one
abbrev pub merged_four : List Standing → List Standing → List Standing → List Standing → List Standing
merged_four a b c d = merged (merged a b) (merged c d)

abbrev pub first_in : List Standing → Option Standing
first_in [] = None
first_in (x ∷ xs) = Some x
