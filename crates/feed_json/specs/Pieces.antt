-- The text of a snapshot's form in pieces: its entities, its header, its unknown fields. (Keys stand in byte order.)
use Rattle.std.specs.Prelude.{ℕ, List, [], ◌∷◌, ◌++◌, Bool, true, false, codes, if◌then◌else◌}
use Rattle.serde_json.specs.Written.{compact_text}
use Rattle.rt_wire.specs.Fields.{WireField}
use Rattle.feed_values.specs.Schema.{Value}
use Rattle.feed_values.specs.Messages.{feed_message, feed_header, entity}
use Rattle.feed_json.specs.Form.{form, unknown_form}

-- ---- an array, whose items and end are written by whether they stand behind an item
abbrev pub array_from : {A : Type 0} → (Bool → A → List ℕ) → (Bool → List ℕ) → Bool → List A → List ℕ
array_from item end later [] = end later
array_from item end later (x ∷ xs) = item later x ++ array_from item end true xs

-- before an item a comma, or before the first one what opens the array
abbrev pub before_item : List ℕ → Bool → List ℕ
before_item opening later = if later then codes "," else opening

-- behind the items what closes the array, unless there are none
abbrev pub behind_items : List ℕ → Bool → List ℕ
behind_items closing later = if later then closing else []

-- ---- the pieces of a snapshot
abbrev pub entity_piece : Bool → Value entity → List ℕ
entity_piece later e = before_item (codes "\"entity\":[") later ++ compact_text (form entity e)

-- the header, behind the entities
abbrev pub header_piece : Value feed_header → Bool → List ℕ
header_piece header later = behind_items (codes "],") later ++ (codes "\"header\":" ++ compact_text (form feed_header header))

abbrev pub unknown_piece : Bool → WireField → List ℕ
unknown_piece later f = before_item (codes ",\"unknown\":[") later ++ compact_text (unknown_form f)

-- the end, behind the unknown fields
abbrev pub end_piece : Bool → List ℕ
end_piece later = behind_items (codes "]") later ++ codes "}"

-- all of them
abbrev pub pieces : Value feed_message → List ℕ
pieces v = codes "{" ++ (array_from entity_piece (header_piece v.0) false v.1.0 ++ array_from unknown_piece end_piece false v.1.1)
