-- How long canonical bytes are at most: 20 bytes a slot, and the texts.
use Rattle.std.proofs.Common.{◌≡◌, ℕ, ◌+◌, ◌*◌, ◌≤◌, ◌<◌, ◌^◌, ℤ, List, [], ◌∷◌, ◌++◌, length, map, decimal, Option, Some, None, true, false, ◌==◌, if◌then◌else◌, refl, arith}
use Rattle.std.specs.List.{flat_map, enumerate_from}
use Rattle.std.proofs.lemmas.List.{length-append}
use Rattle.std.proofs.lemmas.Fmt.{length-decimal-le}
use Rattle.rt_wire.specs.Fields.{Len}
use Rattle.rt_wire.specs.Writing.{spell}
use Rattle.feed_values.specs.Schema as schema
use Rattle.feed_values.specs.Schema.{Schema, Scalar, Value, present}
use Rattle.feed_values.specs.Meaning.{option_case}
use Rattle.feed_values.specs.Messages.{feed_message, feed_header, entity}
use Rattle.feed_values.specs.Views.{entity_value, feed_header_value}
use Rattle.feed_values.specs.Canonical.{scalar_value, spelled_slot, where_held, canonical}
use Rattle.feed_codec.proofs.Sizes.{slot_long, held_in}
use Rattle.trial_feed.specs.declared.letter.Letter.{Letter}
use Rattle.trial_feed.specs.declared.letter.Letter.TheVariants.{V, W}
use Rattle.trial_feed.specs.declared.entity_state.EntityState.{EntityState}
use Rattle.trial_feed.specs.Moving.{Moving, IsWithin}
use Rattle.trial_feed.specs.Messages.{numbered, letter_text, update_entity, position_entity, entity_of, states_of, feed_of, header_of, snapshot_value}
use Rattle.trial_feed.proofs.Formed.{states_low}

-- ---- any message
abbrev pub sizes : {A : Type 0} → (A → ℕ) → List A → ℕ
sizes size [] = 0
sizes size (x ∷ xs) = size x + sizes size xs

abbrev pub value_size : (s : Schema) → Value s → ℕ
value_size schema.end v = length (flat_map spell v)
value_size (schema.scalar n name presence t rest) v = option_case (present presence v.0) 0 (λ z. 20) + value_size rest v.1
value_size (schema.text n name presence rest) v = option_case (present presence v.0) 0 (λ p. 20 + length p) + value_size rest v.1
value_size (schema.message n name presence m rest) v = option_case (present presence v.0) 0 (λ w. 20 + value_size m w) + value_size rest v.1
value_size (schema.repeated n name m rest) v = sizes (λ w. 20 + value_size m w) v.0 + value_size rest v.1

both_long : (a b : List ℕ) (x y : ℕ) → length a ≤ x → length b ≤ y → length (a ++ b) ≤ x + y
both_long a b x y p q = omega (arith, length-append a b)

no_payload : (t : Scalar) (z : ℤ) → held_in (scalar_value t z) ≡ 0
no_payload schema.Bool z = refl
no_payload schema.U32 z = refl
no_payload schema.I32 z = refl
no_payload schema.U64 z = refl
no_payload schema.I64 z = refl
no_payload schema.Bits32 z = refl
no_payload schema.Bits64 z = refl
no_payload (schema.Enum first last) z = refl
no_payload (schema.EnumOr first last more) z = refl

scalar_long : (n : ℕ) (t : Scalar) (z : ℤ) → length (spelled_slot n (scalar_value t z)) ≤ 20
scalar_long n t z = omega (arith, slot_long n (scalar_value t z), no_payload t z)

held_long : {A : Type 0} (write : A → List ℕ) (size : A → ℕ) (o : Option A) → ((x : A) → length (write x) ≤ size x)
    → length (where_held write o) ≤ option_case o 0 size
held_long write size None le = omega arith
held_long write size (Some x) le = le x

all_long : {A : Type 0} (write : A → List ℕ) (size : A → ℕ) (xs : List A) → ((x : A) → length (write x) ≤ size x)
    → length (flat_map write xs) ≤ sizes size xs
all_long write size [] le = omega arith
all_long write size (x ∷ xs) le = both_long (write x) (flat_map write xs) (size x) (sizes size xs) (le x) (all_long write size xs le)

canonical_long : (s : Schema) (v : Value s) → length (canonical s v) ≤ value_size s v
canonical_long schema.end v = omega arith
canonical_long (schema.scalar n name presence t rest) v =
    both_long (where_held (λ z. spelled_slot n (scalar_value t z)) (present presence v.0)) (canonical rest v.1)
    (option_case (present presence v.0) 0 (λ z. 20)) (value_size rest v.1)
    (held_long (λ z. spelled_slot n (scalar_value t z)) (λ z. 20) (present presence v.0) (λ z. scalar_long n t z))
    (canonical_long rest v.1)
canonical_long (schema.text n name presence rest) v =
    both_long (where_held (λ p. spelled_slot n (Len p)) (present presence v.0)) (canonical rest v.1)
    (option_case (present presence v.0) 0 (λ p. 20 + length p)) (value_size rest v.1)
    (held_long (λ p. spelled_slot n (Len p)) (λ p. 20 + length p) (present presence v.0) (λ p. slot_long n (Len p)))
    (canonical_long rest v.1)
canonical_long (schema.message n name presence m rest) v =
    both_long (where_held (λ w. spelled_slot n (Len (canonical m w))) (present presence v.0)) (canonical rest v.1)
    (option_case (present presence v.0) 0 (λ w. 20 + value_size m w)) (value_size rest v.1)
    (held_long (λ w. spelled_slot n (Len (canonical m w))) (λ w. 20 + value_size m w) (present presence v.0)
    (λ w. omega (arith, slot_long n (Len (canonical m w)), canonical_long m w)))
    (canonical_long rest v.1)
canonical_long (schema.repeated n name m rest) v =
    both_long (flat_map (λ w. spelled_slot n (Len (canonical m w))) v.0) (canonical rest v.1)
    (sizes (λ w. 20 + value_size m w) v.0) (value_size rest v.1)
    (all_long (λ w. spelled_slot n (Len (canonical m w))) (λ w. 20 + value_size m w) v.0
    (λ w. omega (arith, slot_long n (Len (canonical m w)), canonical_long m w)))
    (canonical_long rest v.1)

-- ---- the snapshots
decimal_long : (k : ℕ) → k < 2 ^ 64 → length (decimal k) ≤ 20
decimal_long k small = length-decimal-le 20 k (omega arith) (omega arith) small

vehicle_long : (letter : Letter) (k : ℕ) → k < 2 ^ 64 → length (numbered (letter_text letter) k) ≤ 21
vehicle_long V k small = omega (arith, decimal_long k small)
vehicle_long W k small = omega (arith, decimal_long k small)

update_long : (k : ℕ) (e : EntityState) → k < 2 ^ 64 → value_size entity (entity_value (update_entity k e)) ≤ 400
update_long k e small = omega (arith, decimal_long k small, vehicle_long e.letter k small)

position_long : (k : ℕ) (e : EntityState) → k < 2 ^ 64 → value_size entity (entity_value (position_entity k e)) ≤ 400
position_long k e small = omega (arith, decimal_long k small, vehicle_long e.letter k small)

entity_long : (feed k : ℕ) (e : EntityState) → k < 2 ^ 64 → value_size entity (entity_value (entity_of feed k e)) ≤ 400
entity_long feed k e small =
    elim (feed == 0) as (λ t. value_size entity (entity_value (if t then update_entity k e else position_entity k e)) ≤ 400) [
      | true ↦ update_long k e small
      | false ↦ position_long k e small
    ]

entities_long : (feed k : ℕ) (states : List EntityState) → k + length states < 2 ^ 64
    → sizes (λ w. 20 + value_size entity w) (map entity_value (map (λ e. entity_of feed e.0 e.1) (enumerate_from k states))) ≤ 420 * length states
entities_long feed k [] small = omega arith
entities_long feed k (e ∷ states) small =
    let one : value_size entity (entity_value (entity_of feed k e)) ≤ 400 = entity_long feed k e (omega arith) in
    let rest = entities_long feed (k + 1) states (omega arith) in
    omega arith

header_long : (number : ℕ) → value_size feed_header (feed_header_value (header_of number)) ≤ 100
header_long number = omega arith

pub snapshot_short : (number : ℕ) (m : Moving) → number < 40 → IsWithin (number + 1) m
    → length (canonical feed_message (snapshot_value number m)) ≤ 1000000
snapshot_short number m few within =
    let whole = (states_low number m (feed_of number) few within).whole in
    omega (
      arith,
      canonical_long feed_message (snapshot_value number m),
      header_long number,
      entities_long (feed_of number) 0 (states_of (feed_of number) m) (omega arith),
    )
