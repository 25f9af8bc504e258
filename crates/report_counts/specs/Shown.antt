-- The first few of many. (This profile.)
use Rattle.std.specs.Prelude.{ℕ, List, [], ◌∷◌, ◌++◌, length, nat_lt, take, if◌then◌else◌}

abbrev pub shown_limit : ℕ
shown_limit = 10

abbrev pub shown : {A : Type 0} → List A → List A
shown items = take shown_limit items

-- in the code: one more, while there are few
abbrev pub shown_more : {A : Type 0} → List A → A → List A
shown_more items item = if nat_lt (length items) shown_limit then items ++ item ∷ [] else items
