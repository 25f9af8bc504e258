-- A message that takes its fields one by one. The definition of what fields mean stands in feed_values; the contract of `message_of` says
-- that the two agree. (Protocol Buffers, Encoding, "Last One Wins", "Submessages", "Unknown Fields".)
use Rattle.std.specs.Prelude.{◌≡◌, ℕ, ℤ, pos, Bool, true, false, List, [], ◌∷◌, ◌++◌, Option, Some, None, Result, Ok, Err, ◌==◌}
use Rattle.std.specs.Prelude.{if◌then◌else◌}
use Rattle.std.specs.Option.{option_map, unwrap_or}
use Rattle.feed_codec.specs.declared.stopped.Stopped.{Stopped}
use Rattle.feed_codec.specs.declared.refusal.Refusal.{Refusal}
use Rattle.rt_wire.specs.Fields.{WireField}
use Rattle.rt_wire.specs.Fields as wire
use Rattle.feed_values.specs.Schema as schema
use Rattle.feed_values.specs.declared.required.Required.TheVariants as slots
use Rattle.feed_values.specs.Schema.{Schema, Scalar, Presence, Needed, Value, Held, held, present, blank}
use Rattle.feed_values.specs.Meaning.{fields, scalar_in, payload_in, option_case}

-- A required slot. Which one it is makes no difference to what it holds.
abbrev pub required : Presence
required = Needed slots.Id

-- with one more unknown field
abbrev pub kept : (s : Schema) → WireField → Value s → Value s
kept schema.end f v = v ++ f ∷ []
kept (schema.scalar n name presence t rest) f v = (v.0, kept rest f v.1)
kept (schema.text n name presence rest) f v = (v.0, kept rest f v.1)
kept (schema.message n name presence m rest) f v = (v.0, kept rest f v.1)
kept (schema.repeated n name m rest) f v = (v.0, kept rest f v.1)

abbrev pub taken_in : {A : Type 0} → (WireField → A → A) → List WireField → A → A
taken_in step [] v = v
taken_in step (f ∷ l) v = taken_in step l (step f v)

-- what a slot holds with one more field's value; none where the value is not of the slot
abbrev pub merged_scalar : (presence : Presence) → Scalar → wire.WireValue → Option (Held presence ℤ)
merged_scalar presence t x = option_map (λ z. held presence (pos 0) (Some z)) (scalar_in t x)

abbrev pub merged_text : (presence : Presence) → wire.WireValue → Option (Held presence (List ℕ))
merged_text presence x = option_map (λ p. held presence [] (Some p)) (payload_in x)

abbrev pub merged_message : {A : Type 0} → (presence : Presence) → (List WireField → A → A) → A → wire.WireValue → Held presence A
    → Option (Held presence A)
merged_message presence more none x old =
    option_map (λ p. held presence none (Some (more (fields p) (unwrap_or (present presence old) none)))) (payload_in x)

abbrev pub merged_repeated : {A : Type 0} → (List WireField → A → A) → A → wire.WireValue → List A → Option (List A)
merged_repeated more none x held = option_map (λ p. held ++ more (fields p) none ∷ []) (payload_in x)

-- with one more field of a slot; none where the field is of no slot
abbrev pub merged : (s : Schema) → WireField → Value s → Option (Value s)
merged schema.end f v = None
merged (schema.scalar n name presence t rest) f v =
    if f.number == n then option_map (λ c. (c, v.1)) (merged_scalar presence t f.value)
    else option_map (λ w. (v.0, w)) (merged rest f v.1)
merged (schema.text n name presence rest) f v =
    if f.number == n then option_map (λ c. (c, v.1)) (merged_text presence f.value) else option_map (λ w. (v.0, w)) (merged rest f v.1)
merged (schema.message n name presence m rest) f v =
    if f.number == n then option_map (λ c. (c, v.1))
    (merged_message presence (taken_in (λ q w. option_case (merged m q w) (kept m q w) (λ x. x))) (blank m) f.value v.0)
    else option_map (λ w. (v.0, w)) (merged rest f v.1)
merged (schema.repeated n name m rest) f v =
    if f.number == n then option_map (λ c. (c, v.1))
    (merged_repeated (taken_in (λ q w. option_case (merged m q w) (kept m q w) (λ x. x))) (blank m) f.value v.0)
    else option_map (λ w. (v.0, w)) (merged rest f v.1)

-- with one more field
unfoldable pub with_field : (s : Schema) → WireField → Value s → Value s
with_field s f v = option_case (merged s f v) (kept s f v) (λ w. w)

-- with more fields
unfoldable pub with_fields : (s : Schema) → List WireField → Value s → Value s
with_fields s l v = taken_in (λ q w. option_case (merged s q w) (kept s q w) (λ x. x)) l v

-- Whether it was taken, where o is what is held then.
abbrev pub Took : {A : Type 0} → Option A → A → A → Bool → Type 0
Took None old new taken = (taken ≡ false) × (new ≡ old)
Took (Some w) old new taken = (taken ≡ true) × (new ≡ w)

-- Nothing is wrong with a value's payload, where it has one.
abbrev pub NothingWrong : (List ℕ → Option Refusal) → wire.WireValue → Type 0
NothingWrong wrong x = (p : List ℕ) → payload_in x ≡ Some p → wrong p ≡ None

abbrev pub TakenOr : {A : Type 0} → Option A → A → A → Result Bool Stopped → Type 0
TakenOr o old new (Ok taken) = Took o old new taken
TakenOr o old new (Err e) = Unit {0}
