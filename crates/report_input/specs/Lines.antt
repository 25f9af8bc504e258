-- The lines of a text. (This profile.)
use Rattle.std.specs.Prelude.{ℕ, ◌==◌, ◌++◌, List, [], ◌∷◌, if◌then◌else◌}

-- those that end at a line feed, of a text behind the front of the first one
abbrev pub whole_lines : List ℕ → List ℕ → List (List ℕ)
whole_lines front [] = []
whole_lines front (byte ∷ bytes) = if byte == 10 then front ∷ whole_lines [] bytes else whole_lines (front ++ byte ∷ []) bytes

-- what stands behind the last line feed
abbrev pub rest_behind : List ℕ → List ℕ → List ℕ
rest_behind front [] = front
rest_behind front (byte ∷ bytes) = if byte == 10 then rest_behind [] bytes else rest_behind (front ++ byte ∷ []) bytes

-- it is a line where it isn't empty
abbrev pub last_line : List ℕ → List (List ℕ)
last_line [] = []
last_line (byte ∷ bytes) = (byte ∷ bytes) ∷ []

abbrev pub lines_in : List ℕ → List (List ℕ)
lines_in text = whole_lines [] text ++ last_line (rest_behind [] text)
