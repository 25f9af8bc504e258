-- The JSON tree of a message: an object whose keys are the names of the slots that hold something.
-- (This profile's; the names are those of the GTFS Realtime Reference 2.0.)
use Rattle.std.specs.Prelude.{ℕ, ℤ, List, [], ◌∷◌, map, Option, Some, None, codes}
use Rattle.std.specs.Option.{option_map}
use Rattle.hex.specs.Hex.{encode_lower}
use Rattle.serde_json.specs.Data.{Data, boolean, number, string, array, object, unsigned, Members, no_members, member, put}
use Rattle.serde_json.specs.Find.{of_integer}
use Rattle.serde_json.specs.View.{items_of}
use Rattle.rt_wire.specs.Fields.{WireValue, Varint, Fixed64, Len, Group, Fixed32, WireField, wire_type}
use Rattle.feed_values.specs.Schema as schema
use Rattle.feed_values.specs.Schema.{Schema, Scalar, Value, present}
use Rattle.feed_values.specs.Accepted.{is_one}

-- a truth value as true or false, every other number as a whole number
abbrev pub scalar_form : Scalar → ℤ → Data
scalar_form schema.Bool z = boolean (is_one (Some z))
scalar_form _ z = number (of_integer z)

-- the value of an unknown field: a number, or bytes in lower-case hexadecimal
abbrev pub wire_form : WireValue → Data
wire_form (Varint n) = number (unsigned n)
wire_form (Fixed64 n) = number (unsigned n)
wire_form (Len payload) = string (encode_lower payload)
wire_form (Group group) = string (encode_lower group)
wire_form (Fixed32 n) = number (unsigned n)

abbrev pub unknown_form : WireField → Data
unknown_form f =
    object (member (codes "number") (number (unsigned f.number)) (
    member (codes "value") (wire_form f.value) (
    member (codes "wire") (number (unsigned (wire_type f.value))) no_members)))

-- an array, where it has items
abbrev pub array_form : List Data → Option Data
array_form [] = None
array_form (d ∷ ds) = Some (array (items_of (d ∷ ds)))

-- the members with one more, where there is one
abbrev pub with_member : List ℕ → Option Data → Members → Members
with_member key None ms = ms
with_member key (Some d) ms = put key d ms

-- the members with those of a message: its slots that hold something, and its unknown fields
abbrev pub with_slots : (s : Schema) → Value s → Members → Members
with_slots schema.end v ms = with_member (codes "unknown") (array_form (map unknown_form v)) ms
with_slots (schema.scalar n name presence t rest) v ms =
    with_slots rest v.1 (with_member (codes name) (option_map (scalar_form t) (present presence v.0)) ms)
with_slots (schema.text n name presence rest) v ms =
    with_slots rest v.1 (with_member (codes name) (option_map string (present presence v.0)) ms)
with_slots (schema.message n name presence m rest) v ms =
    with_slots rest v.1 (with_member (codes name) (option_map (λ w. object (with_slots m w no_members)) (present presence v.0)) ms)
with_slots (schema.repeated n name m rest) v ms =
    with_slots rest v.1 (with_member (codes name) (array_form (map (λ w. object (with_slots m w no_members)) v.0)) ms)

-- the tree of a message
abbrev pub form : (s : Schema) → Value s → Data
form s v = object (with_slots s v no_members)
