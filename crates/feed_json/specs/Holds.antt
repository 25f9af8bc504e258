-- Which values the JSON form can hold: the well-formed ones, but for DIFFERENTIAL at a field named incrementality.
-- (This profile's.)
use Rattle.std.specs.Prelude.{ℤ, ℕ, List, codes, IfSome}
use Rattle.std.specs.List.{AllByRecursion}
use Rattle.std.specs.Str.{IsUtf8}
use Rattle.feed_values.specs.Schema as schema
use Rattle.feed_values.specs.Schema.{Schema, Scalar, Value, present}
use Rattle.feed_values.specs.WellFormed.{InRange, IsRecognised, IsUnknown}
use Rattle.feed_json.specs.Unform.{last_number}

-- a number that JSON may hold at a key
abbrev pub InJson : List ℕ → Scalar → ℤ → Type 0
InJson key (schema.Enum first last) z = IsRecognised first (last_number key last) z
InJson key (schema.EnumOr first last more) z = InRange (schema.EnumOr first last more) z
InJson key schema.Bool z = InRange schema.Bool z
InJson key schema.U32 z = InRange schema.U32 z
InJson key schema.I32 z = InRange schema.I32 z
InJson key schema.U64 z = InRange schema.U64 z
InJson key schema.I64 z = InRange schema.I64 z
InJson key schema.Bits32 z = InRange schema.Bits32 z
InJson key schema.Bits64 z = InRange schema.Bits64 z

-- what the form of a message can hold, where `whole` is the schema with all slots
abbrev pub Holds : Schema → (s : Schema) → Value s → Type 0
Holds whole schema.end v = AllByRecursion (IsUnknown whole) v
Holds whole (schema.scalar n name presence t rest) v = IfSome (present presence v.0) (InJson (codes name) t) × Holds whole rest v.1
Holds whole (schema.text n name presence rest) v = IfSome (present presence v.0) IsUtf8 × Holds whole rest v.1
Holds whole (schema.message n name presence m rest) v = IfSome (present presence v.0) (Holds m m) × Holds whole rest v.1
Holds whole (schema.repeated n name m rest) v = AllByRecursion (Holds m m) v.0 × Holds whole rest v.1
