-- What the bytes so far say of the field at a place.
use Rattle.std.specs.Prelude.{◌≡◌, ℕ, ◌<◌, List, [], ◌∷◌, ◌++◌, Option, IfSome, Result, Ok, Err}
use Rattle.rt_wire.specs.declared.tag.Tag.{Tag}
use Rattle.rt_wire.specs.declared.tag.WireType.TheVariants as types
use Rattle.rt_wire.specs.Reading.{tag_from}
use Rattle.rt_wire.specs.Placed.{LiesIn, field_from, placed_field}
use Rattle.field_pieces.specs.declared.front.Front.{Front}
use Rattle.field_pieces.specs.declared.reading_on.FieldSoFar.{FieldSoFar}
use Rattle.field_pieces.specs.declared.reading_on.FieldSoFar.TheVariants as so_far
use Rattle.field_pieces.specs.Fronts.{IsFront, IsGroupTo}

-- what was gone through of the group at a place
abbrev pub IsFrontAt : List ℕ → ℕ → Front → Type 0
IsFrontAt bytes start f = IsFront bytes start (f.outer.items ++ f.number ∷ []) f.at

-- a group begins at a place with this start tag
pub record IsStart (bytes : List ℕ) (start : ℕ) (tag : Tag) : Type 0 where
  pub reads : tag_from bytes start ≡ Ok tag
  pub wire : tag.wire ≡ types.StartGroup

-- What reading says of these bytes: a field that lies in them; a whole group; or a fault, and a front of a group where one begins there.
abbrev pub SaysSoFar : List ℕ → ℕ → FieldSoFar → Type 0
SaysSoFar bytes start (so_far.Plain f) = (field_from bytes start ≡ Ok (placed_field f)) × LiesIn bytes f × (start < f.end)
SaysSoFar bytes start (so_far.Group stop) = IsGroupTo bytes start stop
SaysSoFar bytes start (so_far.Fault f front) = (field_from bytes start ≡ Err f) × IfSome front (IsFrontAt bytes start)
