-- Fields of slots that the reference got later. JSON that was written before it had them holds such a field among `unknown`: it is
-- moved to its slot. (This profile's.)
use Rattle.std.specs.Prelude.{◌≡◌, ◌%◌, ◌^◌, ◌==◌, ℕ, ℤ, pos, Bool, true, false, not, ◌&&◌, ◌||◌, List, [], ◌∷◌, ◌++◌, if◌then◌else◌}
use Rattle.std.specs.Option.{is_some, is_none, option_map, option_or, unwrap_or}
use Rattle.std.specs.List.{filter}
use Rattle.std.specs.Str.{is_utf8}
use Prim.Native.String.{String, compare}
use Rattle.rt_wire.specs.Fields.{WireValue, Varint, WireField}
use Rattle.feed_values.specs.Cells.{is_equal}
use Rattle.feed_values.specs.Schema as schema
use Rattle.feed_values.specs.Schema.{Schema, Scalar, Presence, Optional, Needed, Held, Value, held, present, blank}
use Rattle.feed_values.specs.Meaning.{fields, meaning, scalar_in, payload_in, in_slot, is_of_slot, option_case}
use Rattle.feed_values.specs.WellFormed.{NumbersFit}
use Rattle.rt_wire.specs.Writing.{CanWrite}
use Rattle.feed_codec.specs.Refusal.{first_fault}

-- ---- which fields are moved

-- the names of the slots that came later
abbrev pub is_later : String → Bool
is_later name = is_equal (compare name "feed_version") || (is_equal (compare name "trip_properties") || is_equal (compare name "stop_time_properties"))

-- whether a type of numbers has a number more than it had
abbrev pub has_more : Scalar → Bool
has_more (schema.EnumOr first last more) = true
has_more _ = false

-- whether a value is that number
abbrev pub is_more : Scalar → WireValue → Bool
is_more (schema.EnumOr first last more) (Varint n) = n % 2 ^ 32 == more
is_more _ _ = false

-- whether a kind of message has such slots
abbrev pub has_later : Schema → Bool
has_later schema.end = false
has_later (schema.scalar n name presence t rest) = has_more t || has_later rest
has_later (schema.text n name presence rest) = is_later name || has_later rest
has_later (schema.message n name presence m rest) = is_later name || has_later rest
has_later (schema.repeated n name m rest) = has_later rest

-- whether a field is of one of them
abbrev pub is_moved : Schema → WireField → Bool
is_moved schema.end f = false
is_moved (schema.scalar n name presence t rest) f = (is_more t f.value && f.number == n) || is_moved rest f
is_moved (schema.text n name presence rest) f = (is_later name && is_some (in_slot payload_in n f)) || is_moved rest f
is_moved (schema.message n name presence m rest) f = (is_later name && is_some (in_slot payload_in n f)) || is_moved rest f
is_moved (schema.repeated n name m rest) f = is_moved rest f

-- whether the slot takes its value: a text is UTF-8, and a message has no fault
abbrev pub may_move : Schema → WireField → Bool
may_move schema.end f = true
may_move (schema.scalar n name presence t rest) f = may_move rest f
may_move (schema.text n name presence rest) f = (not (is_later name) || option_case (in_slot payload_in n f) true is_utf8) && may_move rest f
may_move (schema.message n name presence m rest) f = (not (is_later name) || option_case (in_slot payload_in n f) true (λ p. is_none (first_fault m p))) && may_move rest f
may_move (schema.repeated n name m rest) f = may_move rest f

-- Whether a field may be an item of `unknown`: one that is moved where its slot takes it, and any other where it is of no slot.
abbrev pub is_item : Schema → WireField → Bool
is_item whole f = if has_later whole && is_moved whole f then may_move whole f else not (is_of_slot whole f)

-- such a field, with numbers that fit
pub record IsItem (whole : Schema) (f : WireField) : Type 0 where
  pub writable : CanWrite f
  pub numbers : NumbersFit f.value
  pub item : is_item whole f ≡ true

-- ---- what they do

-- what is given in place of what was, where it is given
abbrev pub given_over : (A : Type 0) (presence : Presence) → Held presence A → Held presence A → Held presence A
given_over A Optional old new = option_or new old
given_over A (Needed which) old new = new

-- What a message holds once another is laid over it: each slot that the other gives is the other's, and its repeated and unknown fields
-- follow those that were there.
abbrev pub over : (s : Schema) → Value s → Value s → Value s
over schema.end old new = old ++ new
over (schema.scalar n name presence t rest) old new = (given_over ℤ presence old.0 new.0, over rest old.1 new.1)
over (schema.text n name presence rest) old new = (given_over (List ℕ) presence old.0 new.0, over rest old.1 new.1)
over (schema.message n name presence m rest) old new = (given_over (Value m) presence old.0 new.0, over rest old.1 new.1)
over (schema.repeated n name m rest) old new = (old.0 ++ new.0, over rest old.1 new.1)

-- What a message holds once a field was moved to its slot: a number or a text takes the place of what was held, and what a payload means as a
-- message is laid over what was held, or over an empty message.
abbrev pub moved : (s : Schema) → WireField → Value s → Value s
moved schema.end f v = v
moved (schema.scalar n name presence t rest) f v =
    if is_more t f.value && f.number == n then (held presence (pos 0) (scalar_in t f.value), v.1) else (v.0, moved rest f v.1)
moved (schema.text n name presence rest) f v =
    if is_later name && is_some (in_slot payload_in n f) then (held presence [] (payload_in f.value), v.1) else (v.0, moved rest f v.1)
moved (schema.message n name presence m rest) f v =
    if is_later name && is_some (in_slot payload_in n f)
    then (held presence (blank m) (option_map (λ p. over m (unwrap_or (present presence v.0) (blank m)) (meaning m (fields p))) (payload_in f.value)), v.1)
    else (v.0, moved rest f v.1)
moved (schema.repeated n name m rest) f v = (v.0, moved rest f v.1)

abbrev pub all_moved : (s : Schema) → List WireField → Value s → Value s
all_moved s [] v = v
all_moved s (f ∷ l) v = all_moved s l (moved s f v)

-- ---- the unknown fields of a message
abbrev pub unknown_in : (s : Schema) → Value s → List WireField
unknown_in schema.end v = v
unknown_in (schema.scalar n name presence t rest) v = unknown_in rest v.1
unknown_in (schema.text n name presence rest) v = unknown_in rest v.1
unknown_in (schema.message n name presence m rest) v = unknown_in rest v.1
unknown_in (schema.repeated n name m rest) v = unknown_in rest v.1

abbrev pub with_unknown : (s : Schema) → List WireField → Value s → Value s
with_unknown schema.end l v = l
with_unknown (schema.scalar n name presence t rest) l v = (v.0, with_unknown rest l v.1)
with_unknown (schema.text n name presence rest) l v = (v.0, with_unknown rest l v.1)
with_unknown (schema.message n name presence m rest) l v = (v.0, with_unknown rest l v.1)
with_unknown (schema.repeated n name m rest) l v = (v.0, with_unknown rest l v.1)

-- Its unknown fields that are moved, in order, are moved to their slots, and the others stay.
abbrev pub settled : (s : Schema) → Value s → Value s
settled s v = with_unknown s (filter (λ f. not (is_moved s f)) (unknown_in s v)) (all_moved s (filter (is_moved s) (unknown_in s v)) v)
