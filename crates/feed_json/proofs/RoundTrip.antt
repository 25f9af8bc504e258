-- What is written as a tree is read back.
use Rattle.std.proofs.Common.{◌≡◌, ℕ, ◌+◌, List, [], ◌∷◌, map, Option, Some, None, Result, Ok, Bool, true, false, codes, refl, ◌∙◌, arith, option_map}
use Rattle.std.specs.Prelude.{IfSome}
use Rattle.std.specs.List.{AllByRecursion}
use Rattle.std.specs.Str.{IsUtf8, bytes_eq}
use Rattle.std.proofs.lemmas.Slice.Eq.{bytes_eq-Decides}
use Rattle.hex.proofs.HexLemmas.{decode_of-encode_lower}
use Rattle.serde_json.specs.Data.{Data, string, object, Members, no_members}
use Rattle.serde_json.specs.Find.{get_member}
use Rattle.serde_json.specs.View.{items_of}
use Rattle.rt_wire.specs.Fields.{WireField, WireValue, Varint, Fixed64, Len, Group, Fixed32}
use Rattle.feed_values.specs.Schema as schema
use Rattle.feed_values.specs.Schema.{Schema, Scalar, Presence, Optional, Needed, Held, Value, present}
use Rattle.feed_values.specs.WellFormed.{IsUnknown}
use Rattle.feed_json.specs.declared.json_fault.JsonFault.{JsonFault}
use Rattle.feed_json.specs.Faults.{paired}
use Rattle.feed_json.specs.Form.{scalar_form, unknown_form, array_form, with_member, with_slots, form}
use Rattle.feed_json.specs.Holds.{Holds, InJson}
use Rattle.feed_json.proofs.Names.{NamesDiffer}
use Rattle.feed_json.specs.Unform.{text_of, object_of, slot_at, array_at, each_of, unknown_of, is_key, settling, slots_of, unform, scalar_of, field}
use Rattle.feed_json.specs.Later.{settled}
use Rattle.feed_json.proofs.Settled.{settled_already, settling_again, unknown_item}
use Rattle.feed_json.proofs.Members.{get_behind, get_other, get_same, known_slots, left_true, right_true, same_text}
use Rattle.feed_json.proofs.Numbers.{natural_again, scalar_again}
use Rattle.feed_json.proofs.Groups.{whole_group}

-- ---- a slot

slot_again : {A : Type 0} (presence : Presence) (key : List ℕ) (read : Data → Result A JsonFault) (write : A → Data) (P : A
    → Type 0) (h : Held presence A)
    → ((a : A) → P a → read (write a) ≡ Ok a) → IfSome (present presence h) P
    → slot_at presence key read (option_map write (present presence h)) ≡ Ok h
slot_again Optional key read write P None back p = refl
slot_again Optional key read write P (Some a) back p = rw (back a p) refl
slot_again (Needed which) key read write P a back p = rw (back a p) refl

each_again : {A : Type 0} (key : List ℕ) (read : Data → Result A JsonFault) (write : A → Data) (P : A → Type 0) (i : ℕ) (xs : List A)
    → ((a : A) → P a → read (write a) ≡ Ok a) → AllByRecursion P xs → each_of key read i (items_of (map write xs)) ≡ Ok xs
each_again key read write P i [] back all = refl
each_again key read write P i (x ∷ xs) back all = rw (back x all.0, each_again key read write P (i + 1) xs back all.1) refl

array_again : {A : Type 0} (key : List ℕ) (read : Data → Result A JsonFault) (write : A → Data) (P : A → Type 0) (xs : List A)
    → ((a : A) → P a → read (write a) ≡ Ok a) → AllByRecursion P xs → array_at key read (array_form (map write xs)) ≡ Ok xs
array_again key read write P [] back all = refl
array_again key read write P (x ∷ xs) back all = each_again key read write P 0 (x ∷ xs) back all

-- both parts are read
both : {A B : Type 0} (x : Result A JsonFault) (y : Result B JsonFault) (a : A) (b : B) → x ≡ Ok a → y ≡ Ok b → paired x y ≡ Ok (a, b)
both x y a b ex ey = rw (ex, ey) refl

-- ---- unknown fields

by_value : (whole : Schema) (number : ℕ) (x : WireValue) → IsUnknown whole (field number x)
    → unknown_of whole (unknown_form (field number x)) ≡ Ok (field number x)
by_value whole number (Varint n) h =
    rw (
      natural_again 1 536870911 number h.writable.positive (omega (arith, h.writable.small)),
      natural_again 0 18446744073709551615 n (omega arith) (omega (arith, h.numbers)),
      unknown_item whole (field number (Varint n)) h,
    ) refl
by_value whole number (Fixed64 n) h =
    rw (
      natural_again 1 536870911 number h.writable.positive (omega (arith, h.writable.small)),
      natural_again 0 18446744073709551615 n (omega arith) (omega (arith, h.numbers)),
      unknown_item whole (field number (Fixed64 n)) h,
    ) refl
by_value whole number (Len payload) h =
    rw (
      natural_again 1 536870911 number h.writable.positive (omega (arith, h.writable.small)),
      decode_of-encode_lower payload h.numbers,
      unknown_item whole (field number (Len payload)) h,
    ) refl
by_value whole number (Group group) h =
    rw (
      natural_again 1 536870911 number h.writable.positive (omega (arith, h.writable.small)),
      decode_of-encode_lower group h.numbers,
      whole_group group h.writable.group,
      unknown_item whole (field number (Group group)) h,
    ) refl
by_value whole number (Fixed32 n) h =
    rw (
      natural_again 1 536870911 number h.writable.positive (omega (arith, h.writable.small)),
      natural_again 0 4294967295 n (omega arith) (omega (arith, h.numbers)),
      unknown_item whole (field number (Fixed32 n)) h,
    ) refl

pub unknown_again : (whole : Schema) (f : WireField) → IsUnknown whole f → unknown_of whole (unknown_form f) ≡ Ok f
unknown_again whole f h = by_value whole f.number f.value h

-- ---- messages

-- none of the keys of a message stands there
abbrev pub Lacks : Schema → Members → Type 0
Lacks s ms = (k : List ℕ) → is_key s k ≡ true → get_member k ms ≡ None

-- with one member more, none of the later keys
lacks_rest : (key : List ℕ) (rest : Schema) (o : Option Data) (ms : Members) → is_key rest key ≡ false
    → ((k : List ℕ) → is_key rest k ≡ true → get_member k ms ≡ None) → Lacks rest (with_member key o ms)
lacks_rest key rest o ms apart lacks k mine = by_case (bytes_eq k key) refl
  where
    by_case : (b : Bool) → bytes_eq k key ≡ b → get_member k (with_member key o ms) ≡ None
    by_case true e = let same : k ≡ key = (bytes_eq-Decides k key).0 e in cc (rw same at mine)
    by_case false e = get_other k key o ms e ∙ lacks k mine

object_again : (m : Schema) (w : Value m) → slots_of m m (object (with_slots m w no_members)) ≡ Ok w → settled m w ≡ w
    → object_of (is_key m) (λ d. settling m (slots_of m m d)) (object (with_slots m w no_members)) ≡ Ok w
object_again m w e k = rw (known_slots (is_key m) m w no_members (λ k e. e) refl) (settling_again m (slots_of m m (object (with_slots m w no_members))) w e k)

pub slots_again : (whole s : Schema) (v : Value s) (ms : Members) → NamesDiffer s → Holds whole s v → Lacks s ms
    → slots_of whole s (object (with_slots s v ms)) ≡ Ok v
slots_again whole schema.end v ms names h lacks =
    rw (get_same (codes "unknown") (array_form (map unknown_form v)) ms (lacks (codes "unknown") refl)) (array_again (codes "unknown") (unknown_of whole) unknown_form (IsUnknown whole) v (unknown_again whole) h)
slots_again whole (schema.scalar n name presence t rest) v ms names h lacks =
    let more = with_member (codes name) (option_map (scalar_form t) (present presence v.0)) ms in
    both (slot_at presence (codes name) (scalar_of (codes name) t) (get_member (codes name) (with_slots rest v.1 more))) (slots_of whole rest (object (with_slots rest v.1 more))) v.0 v.1
    (rw (
      get_behind rest v.1 (codes name) more names.0,
      get_same (codes name) (option_map (scalar_form t) (present presence v.0)) ms (lacks (codes name) (left_true _ _ (same_text (codes name)))),
    )
    (slot_again presence (codes name) (scalar_of (codes name) t) (scalar_form t) (InJson (codes name) t) v.0 (scalar_again (codes name) t) h.0))
    (slots_again whole rest v.1 more names.1 h.1 (lacks_rest (codes name) rest _ ms names.0 (λ k e. lacks k (right_true (bytes_eq k (codes name)) _ e))))
slots_again whole (schema.text n name presence rest) v ms names h lacks =
    let more = with_member (codes name) (option_map string (present presence v.0)) ms in
    both (slot_at presence (codes name) text_of (get_member (codes name) (with_slots rest v.1 more))) (slots_of whole rest (object (with_slots rest v.1 more))) v.0 v.1
    (rw (
      get_behind rest v.1 (codes name) more names.0,
      get_same (codes name) (option_map string (present presence v.0)) ms (lacks (codes name) (left_true _ _ (same_text (codes name)))),
    )
    (slot_again presence (codes name) text_of string IsUtf8 v.0 (λ a p. refl) h.0))
    (slots_again whole rest v.1 more names.1 h.1 (lacks_rest (codes name) rest _ ms names.0 (λ k e. lacks k (right_true (bytes_eq k (codes name)) _ e))))
slots_again whole (schema.message n name presence m rest) v ms names h lacks =
    let write : Value m → Data = λ w. object (with_slots m w no_members) in
    let more = with_member (codes name) (option_map write (present presence v.0)) ms in
    both (slot_at presence (codes name) (object_of (is_key m) (λ d. settling m (slots_of m m d))) (get_member (codes name) (with_slots rest v.1 more))) (slots_of whole rest (object (with_slots rest v.1 more))) v.0 v.1
    (rw (
      get_behind rest v.1 (codes name) more names.0,
      get_same (codes name) (option_map write (present presence v.0)) ms (lacks (codes name) (left_true _ _ (same_text (codes name)))),
    )
    (slot_again presence (codes name) (object_of (is_key m) (λ d. settling m (slots_of m m d))) write (Holds m m) v.0 (λ w p. object_again m w (slots_again m m w no_members names.1 p (λ k e. refl)) (settled_already m w p)) h.0))
    (slots_again whole rest v.1 more names.2 h.1 (lacks_rest (codes name) rest _ ms names.0 (λ k e. lacks k (right_true (bytes_eq k (codes name)) _ e))))
slots_again whole (schema.repeated n name m rest) v ms names h lacks =
    let write : Value m → Data = λ w. object (with_slots m w no_members) in
    let more = with_member (codes name) (array_form (map write v.0)) ms in
    both (array_at (codes name) (object_of (is_key m) (λ d. settling m (slots_of m m d))) (get_member (codes name) (with_slots rest v.1 more))) (slots_of whole rest (object (with_slots rest v.1 more))) v.0 v.1
    (rw (
      get_behind rest v.1 (codes name) more names.0,
      get_same (codes name) (array_form (map write v.0)) ms (lacks (codes name) (left_true _ _ (same_text (codes name)))),
    )
    (array_again (codes name) (object_of (is_key m) (λ d. settling m (slots_of m m d))) write (Holds m m) v.0 (λ w p. object_again m w (slots_again m m w no_members names.1 p (λ k e. refl)) (settled_already m w p)) h.0))
    (slots_again whole rest v.1 more names.2 h.1 (lacks_rest (codes name) rest _ ms names.0 (λ k e. lacks k (right_true (bytes_eq k (codes name)) _ e))))

-- the tree of what JSON can hold says that value
pub unform_form : (s : Schema) (v : Value s) → NamesDiffer s → Holds s s v → unform s (form s v) ≡ Ok v
unform_form s v names h = object_again s v (slots_again s s v no_members names h (λ k e. refl)) (settled_already s v h)
