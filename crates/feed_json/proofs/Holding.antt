-- JSON can hold what is well formed and not DIFFERENTIAL.
use Rattle.std.proofs.Common.{◌≡◌, ℕ, ℤ, pos, negsuc, zero, suc, List, [], ◌∷◌, Option, Some, None, Bool, true, false, cond, codes, refl, arith, rules, Ok}
use Rattle.std.specs.Prelude.{IfSome}
use Rattle.std.specs.List.{AllByRecursion}
use Rattle.std.specs.Str.{bytes_eq}
use Rattle.feed_values.specs.Schema as schema
use Rattle.feed_values.specs.Schema.{Schema, Scalar, Value, present}
use Rattle.feed_values.specs.Messages.{feed_message, entity}
use Rattle.feed_values.specs.WellFormed.{InRange, IsRecognised, SlotsFit, IsWellFormedFeed}
use Rattle.feed_values.specs.Accepted.{is_one}
use Rattle.feed_values.specs.Snapshot.{incrementality_of}
use Rattle.feed_json.specs.Form.{form}
use Rattle.feed_json.specs.Unform.{unform}
use Rattle.feed_json.specs.Holds.{InJson, Holds}
use Rattle.feed_json.proofs.Names.{NamesDiffer, IsFree}
use Rattle.feed_json.proofs.RoundTrip.{unform_form}

if_some : {A : Type 0} (P Q : A → Type 0) (o : Option A) → ((a : A) → P a → Q a) → IfSome o P → IfSome o Q
if_some P Q None f h = tt
if_some P Q (Some a) f h = f a h

for_all : {A : Type 0} (P Q : A → Type 0) (xs : List A) → ((a : A) → P a → Q a) → AllByRecursion P xs → AllByRecursion Q xs
for_all P Q [] f h = tt
for_all P Q (x ∷ xs) f h = (f x h.0, for_all P Q xs f h.1)

free_number : (key : List ℕ) (t : Scalar) (z : ℤ) → bytes_eq key (codes "incrementality") ≡ false → InRange t z → InJson key t z
free_number key schema.Bool z free h = h
free_number key schema.U32 z free h = h
free_number key schema.I32 z free h = h
free_number key schema.U64 z free h = h
free_number key schema.I64 z free h = h
free_number key schema.Bits32 z free h = h
free_number key schema.Bits64 z free h = h
free_number key (schema.Enum first last) z free h = rw free h
free_number key (schema.EnumOr first last more) z free h = h

slots_hold : (k s : Schema) (v : Value s) → IsFree s → SlotsFit k s v → Holds k s v
slots_hold k schema.end v free h = h
slots_hold k (schema.scalar n name presence t rest) v free h = (
  if_some (InRange t) (InJson (codes name) t) (present presence v.0) (λ z p. free_number (codes name) t z free.0 p) h.0,
  slots_hold k rest v.1 free.1 h.1,
)
slots_hold k (schema.text n name presence rest) v free h = (h.0, slots_hold k rest v.1 free h.1)
slots_hold k (schema.message n name presence m rest) v free h =
    (if_some (SlotsFit m m) (Holds m m) (present presence v.0) (λ w p. slots_hold m m w free.0 p) h.0, slots_hold k rest v.1 free.1 h.1)
slots_hold k (schema.repeated n name m rest) v free h =
    (for_all (SlotsFit m m) (Holds m m) v.0 (λ w p. slots_hold m m w free.0 p) h.0, slots_hold k rest v.1 free.1 h.1)

full_number : (o : Option ℤ) → is_one o ≡ false → IfSome o (InRange (schema.Enum 0 1))
    → IfSome o (InJson (codes "incrementality") (schema.Enum 0 1))
full_number None full h = tt
full_number (Some (pos zero)) full h = (omega arith, omega arith, omega arith)
full_number (Some (pos (suc zero))) full h = cc full
full_number (Some (pos (suc (suc n)))) full h = absurd (omega (arith, h.1))
full_number (Some (negsuc n)) full h = h

entity_free : IsFree entity
entity_free = search rules

names_differ : NamesDiffer feed_message
names_differ = search rules

feed_holds : (v : Value feed_message) → IsWellFormedFeed v → Holds feed_message feed_message v
feed_holds v h = (
  (h.message.0.0, (full_number (incrementality_of v.0) h.full h.message.0.1.0, h.message.0.1.1)),
  (
    for_all (SlotsFit entity entity) (Holds entity entity) v.1.0 (λ w p. slots_hold entity entity w entity_free p) h.message.1.0,
    h.message.1.1,
  ),
)

-- ---- and what it holds is that

wider : (first last : ℕ) (b : Bool) (z : ℤ) → IsRecognised first (cond b 0 last) z → IsRecognised first last z
wider first last true (pos n) h = (h.0, omega (arith, h.1), h.2)
wider first last false (pos n) h = h
wider first last true (negsuc n) h = h
wider first last false (negsuc n) h = h

json_number : (key : List ℕ) (t : Scalar) (z : ℤ) → InJson key t z → InRange t z
json_number key schema.Bool z h = h
json_number key schema.U32 z h = h
json_number key schema.I32 z h = h
json_number key schema.U64 z h = h
json_number key schema.I64 z h = h
json_number key schema.Bits32 z h = h
json_number key schema.Bits64 z h = h
json_number key (schema.Enum first last) z h = wider first last (bytes_eq key (codes "incrementality")) z h
json_number key (schema.EnumOr first last more) z h = h

held_fit : (k s : Schema) (v : Value s) → Holds k s v → SlotsFit k s v
held_fit k schema.end v h = h
held_fit k (schema.scalar n name presence t rest) v h = (
  if_some (InJson (codes name) t) (InRange t) (present presence v.0) (λ z p. json_number (codes name) t z p) h.0,
  held_fit k rest v.1 h.1,
)
held_fit k (schema.text n name presence rest) v h = (h.0, held_fit k rest v.1 h.1)
held_fit k (schema.message n name presence m rest) v h =
    (if_some (Holds m m) (SlotsFit m m) (present presence v.0) (λ w p. held_fit m m w p) h.0, held_fit k rest v.1 h.1)
held_fit k (schema.repeated n name m rest) v h =
    (for_all (Holds m m) (SlotsFit m m) v.0 (λ w p. held_fit m m w p) h.0, held_fit k rest v.1 h.1)

number_full : (o : Option ℤ) → IfSome o (InJson (codes "incrementality") (schema.Enum 0 1)) → is_one o ≡ false
number_full None h = refl
number_full (Some (pos zero)) h = refl
number_full (Some (pos (suc n))) h = absurd (omega (arith, h.1))
number_full (Some (negsuc n)) h = refl

pub feed_fits : (v : Value feed_message) → Holds feed_message feed_message v → IsWellFormedFeed v
feed_fits v h = record { message = held_fit feed_message feed_message v h; full = number_full (incrementality_of v.0) h.0.1.0 }

pub form_reads_back : (v : Value feed_message) → IsWellFormedFeed v → unform feed_message (form feed_message v) ≡ Ok v
form_reads_back v h = unform_form feed_message v names_differ (feed_holds v h)
