-- The text of a path in three parts: what stands before its index, the index in brackets, and what stands after it. (This profile.)
use Rattle.std.specs.Prelude.{ℕ, List, [], ◌∷◌, ◌++◌, codes, if◌then◌else◌}
use Rattle.feed_values.specs.declared.slot.Slot.{Slot}
use Rattle.feed_values.specs.Cells.{Step, field, item, way, way_text, is_of_header}

-- the names of a way up to the first item of a list, and with it
abbrev pub names_before : List Step → List ℕ
names_before [] = []
names_before (item name ∷ steps) = codes name
names_before (field name ∷ []) = codes name
names_before (field name ∷ next ∷ steps) = codes name ++ codes "." ++ names_before (next ∷ steps)

-- the steps after the first item of a list
abbrev pub after_item : List Step → List Step
after_item [] = []
after_item (field name ∷ steps) = after_item steps
after_item (item name ∷ steps) = steps

-- the names of the steps after an item
abbrev pub names_after : List Step → List ℕ
names_after [] = []
names_after (step ∷ steps) = codes "." ++ way_text 0 (step ∷ steps)

abbrev pub text_before_index : Slot → List ℕ
text_before_index slot = (if is_of_header slot then codes "header." else []) ++ names_before (way slot)

abbrev pub text_after_index : Slot → List ℕ
text_after_index slot = names_after (after_item (way slot))
