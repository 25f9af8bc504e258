-- Words that may be paths of files. (This profile.)
use Rattle.std.specs.Prelude.{ℕ, List, [], ◌∷◌, Bool, false, not, ◌==◌, Option, Some, None, if◌then◌else◌}

-- a path isn't empty and doesn't begin with a dash
abbrev pub is_path : List ℕ → Bool
is_path [] = false
is_path (byte ∷ bytes) = not (byte == 45)

abbrev pub path_of : List ℕ → Option (List ℕ)
path_of text = if is_path text then Some text else None
