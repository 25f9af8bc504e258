-- The tree of a message has no float.
use Rattle.std.proofs.Common.{◌≡◌, ℕ, ℤ, pos, negsuc, List, [], ◌∷◌, map, Option, Some, None, Bool, false, ◌||◌, codes, refl, Ordering, Less, Equal, Greater, nat_cmp, option_map}
use Rattle.std.specs.Cmp.Lexicographic.{slice_cmp}
use Rattle.std.specs.Ordering.{match_ordering}
use Rattle.std.specs.Prelude.{IfSome, IfOk, Result, Ok, Err}
use Rattle.std.specs.declared.alloc.AllocError.{AllocError}
use Rattle.serde_json.specs.Data.{Data, string, object, Members, no_members, member, put}
use Rattle.serde_json.specs.View.{items_of, view}
use Rattle.serde_json.specs.declared.value.Value.{Value as Tree}
use Rattle.serde_json.specs.Written.{has_float, items_have_float, members_have_float}
use Rattle.rt_wire.specs.Fields.{WireField, WireValue, Varint, Fixed64, Len, Group, Fixed32}
use Rattle.feed_values.specs.Schema as schema
use Rattle.feed_values.specs.Schema.{Schema, Scalar, Presence, Optional, Needed, Held, Value, present}
use Rattle.feed_json.specs.Form.{scalar_form, unknown_form, array_form, with_member, with_slots, form}
use Rattle.feed_json.proofs.Members.{neither}

either_false : (a b : Bool) → a ≡ false → b ≡ false → (a || b) ≡ false
either_false a b ea eb = rw (ea, eb) refl

at_order : (o : Ordering) (k l : List ℕ) (d e : Data) (ms : Members) → has_float d ≡ false → has_float e ≡ false → members_have_float ms
    ≡ false → members_have_float (put k d ms) ≡ false
    → members_have_float (match_ordering o (member k d (member l e ms)) (member l d ms) (member l e (put k d ms))) ≡ false
at_order Less k l d e ms hd he h later = rw (hd, he) h
at_order Equal k l d e ms hd he h later = rw hd h
at_order Greater k l d e ms hd he h later = rw he later

put_float : (k : List ℕ) (d : Data) (ms : Members) → has_float d ≡ false → members_have_float ms ≡ false → members_have_float (put k d ms)
    ≡ false
put_float k d no_members hd h = rw hd refl
put_float k d (member l e ms) hd h =
    let parts = neither (has_float e) (members_have_float ms) h in
    at_order (slice_cmp nat_cmp k l) k l d e ms hd parts.0 parts.1 (put_float k d ms hd parts.1)

-- a member that may be there, which has none
abbrev pub NoFloat : Data → Type 0
NoFloat d = has_float d ≡ false

member_float : (k : List ℕ) (o : Option Data) (ms : Members) → IfSome o NoFloat → members_have_float ms ≡ false
    → members_have_float (with_member k o ms) ≡ false
member_float k None ms none h = h
member_float k (Some d) ms none h = put_float k d ms none h

mapped : {A : Type 0} (write : A → Data) (o : Option A) → ((a : A) → NoFloat (write a)) → IfSome (option_map write o) NoFloat
mapped write None all = tt
mapped write (Some a) all = all a

items_float : {A : Type 0} (write : A → Data) (xs : List A) → ((a : A) → NoFloat (write a)) → items_have_float (items_of (map write xs))
    ≡ false
items_float write [] all = refl
items_float write (x ∷ xs) all = either_false (has_float (write x)) _ (all x) (items_float write xs all)

array_float : {A : Type 0} (write : A → Data) (xs : List A) → ((a : A) → NoFloat (write a)) → IfSome (array_form (map write xs)) NoFloat
array_float write [] all = tt
array_float write (x ∷ xs) all = items_float write (x ∷ xs) all

scalar_float : (t : Scalar) (z : ℤ) → NoFloat (scalar_form t z)
scalar_float schema.Bool z = refl
scalar_float schema.U32 (pos n) = refl
scalar_float schema.U32 (negsuc n) = refl
scalar_float schema.I32 (pos n) = refl
scalar_float schema.I32 (negsuc n) = refl
scalar_float schema.U64 (pos n) = refl
scalar_float schema.U64 (negsuc n) = refl
scalar_float schema.I64 (pos n) = refl
scalar_float schema.I64 (negsuc n) = refl
scalar_float schema.Bits32 (pos n) = refl
scalar_float schema.Bits32 (negsuc n) = refl
scalar_float schema.Bits64 (pos n) = refl
scalar_float schema.Bits64 (negsuc n) = refl
scalar_float (schema.Enum first last) (pos n) = refl
scalar_float (schema.Enum first last) (negsuc n) = refl
scalar_float (schema.EnumOr first last more) (pos n) = refl
scalar_float (schema.EnumOr first last more) (negsuc n) = refl

by_value : (number : ℕ) (x : WireValue) → NoFloat (unknown_form (record { number = number; value = x }))
by_value number (Varint n) = refl
by_value number (Fixed64 n) = refl
by_value number (Len p) = refl
by_value number (Group p) = refl
by_value number (Fixed32 n) = refl

pub unknown_float : (f : WireField) → has_float (unknown_form f) ≡ false
unknown_float f = by_value f.number f.value

slots_float : (s : Schema) (v : Value s) (ms : Members) → members_have_float ms ≡ false → members_have_float (with_slots s v ms) ≡ false
slots_float schema.end v ms h = member_float (codes "unknown") _ ms (array_float unknown_form v unknown_float) h
slots_float (schema.scalar n name presence t rest) v ms h =
    slots_float rest v.1 _ (member_float (codes name) _ ms (mapped (scalar_form t) (present presence v.0) (scalar_float t)) h)
slots_float (schema.text n name presence rest) v ms h =
    slots_float rest v.1 _ (member_float (codes name) _ ms (mapped string (present presence v.0) (λ s. refl)) h)
slots_float (schema.message n name presence m rest) v ms h =
    slots_float rest v.1 _ (member_float (codes name) _ ms (mapped (λ w. object (with_slots m w no_members)) (present presence v.0) (λ w. slots_float m w no_members refl)) h)
slots_float (schema.repeated n name m rest) v ms h =
    slots_float rest v.1 _ (member_float (codes name) _ ms (array_float (λ w. object (with_slots m w no_members)) v.0 (λ w. slots_float m w no_members refl)) h)

-- what was made for a message
pub tree_float : (s : Schema) (v : Value s) (r : Result Tree AllocError) → IfOk r (λ tree. view tree ≡ form s v)
    → IfOk r (λ tree. has_float (view tree) ≡ false)
tree_float s v (Ok tree) h = rw h (slots_float s v no_members refl)
tree_float s v (Err e) h = tt

-- what was made for an unknown field
pub field_float : (f : WireField) (r : Result Tree AllocError) → IfOk r (λ tree. view tree ≡ unknown_form f) → IfOk r (λ tree. has_float (view tree) ≡ false)
field_float f (Ok tree) h = rw h (unknown_float f)
field_float f (Err e) h = tt
