-- The first fault of a snapshot: a place in its bytes, and what is wrong there.
-- (Protocol Buffers, Encoding, "Message Structure"; the order of faults and their places are this profile's.)
use Rattle.std.specs.Prelude.{◌≡◌, ℕ, ◌+◌, List, [], ◌∷◌, length, Option, Some, None, Result, Ok, Err, nat_lt, ◌==◌, if◌then◌else◌}
use Rattle.std.specs.Option.{option_map, option_or}
use Rattle.std.specs.Str.Lossy.{utf8_valid_len}
use Rattle.rt_wire.specs.declared.fault.WireReason.{WireReason}
use Rattle.rt_wire.specs.declared.fault.WireReason.TheVariants as wire
use Rattle.rt_wire.specs.declared.fault.WireFault.{WireFault}
use Rattle.rt_wire.specs.Fields.{WireField}
use Rattle.rt_wire.specs.Placed.{PlacedField, placed_fields}
use Rattle.feed_codec.specs.declared.refusal.Reason.{Reason}
use Rattle.feed_codec.specs.declared.refusal.Reason.TheVariants.{Truncated, VarintTooLong, BadTag, BadWireType, Overrun, LoneEndGroup}
use Rattle.feed_codec.specs.declared.refusal.Reason.TheVariants.{GroupMismatch, TooDeep, NotText, MissingField, Differential, TooLarge}
use Rattle.feed_codec.specs.declared.refusal.Refusal.{Refusal}
use Rattle.feed_values.specs.declared.required.Required.{Required}
use Rattle.feed_values.specs.Schema as schema
use Rattle.feed_values.specs.Schema.{Schema}
use Rattle.feed_values.specs.Messages.{feed_message, feed_header, entity}
use Rattle.feed_values.specs.Meaning.{fields, payload_in, option_case}
use Rattle.feed_values.specs.Accepted.{missing, header_fields, is_differential, snapshot_limit}

abbrev pub refused : ℕ → Reason → Refusal
refused at reason = record { at = at; reason = reason }

-- the same fault, where the bytes begin at `base`
abbrev pub shifted : ℕ → Refusal → Refusal
shifted base r = refused (base + r.at) r.reason

-- a fault of the wire format, by the same name
abbrev pub wire_reason : WireReason → Reason
wire_reason wire.Truncated = Truncated
wire_reason wire.VarintTooLong = VarintTooLong
wire_reason wire.BadTag = BadTag
wire_reason wire.BadWireType = BadWireType
wire_reason wire.Overrun = Overrun
wire_reason wire.LoneEndGroup = LoneEndGroup
wire_reason wire.GroupMismatch = GroupMismatch
wire_reason wire.TooDeep = TooDeep

abbrev pub own_fault : WireFault → Refusal
own_fault f = refused f.at (wire_reason f.reason)

-- a text is wrong behind its longest front that is UTF-8
abbrev pub text_fault : List ℕ → Option Refusal
text_fault payload = if utf8_valid_len payload == length payload then None else Some (refused (utf8_valid_len payload) NotText)

-- Fields are taken left to right: for each its own fault first, then what is wrong inside it.
abbrev pub first_in : (PlacedField → Option Refusal) → List (Result PlacedField WireFault) → Option Refusal
first_in inside [] = None
first_in inside (Ok f ∷ rest) = option_or (inside f) (first_in inside rest)
first_in inside (Err fault ∷ rest) = Some (own_fault fault)

-- what is wrong inside a field, by what is wrong with a payload of its number
abbrev pub in_payload : (ℕ → List ℕ → Option Refusal) → PlacedField → Option Refusal
in_payload wrong f = option_case (payload_in f.field.value) None (λ p. option_map (shifted f.body) (wrong f.field.number p))

-- what is wrong with a payload of slot `number`
abbrev pub payload_fault : Schema → ℕ → List ℕ → Option Refusal
payload_fault schema.end number p = None
payload_fault (schema.scalar n name presence t rest) number p = payload_fault rest number p
payload_fault (schema.text n name presence rest) number p = if number == n then text_fault p else payload_fault rest number p
payload_fault (schema.message n name presence m rest) number p =
    if number == n then first_in (in_payload (payload_fault m)) (placed_fields p) else payload_fault rest number p
payload_fault (schema.repeated n name m rest) number p =
    if number == n then first_in (in_payload (payload_fault m)) (placed_fields p) else payload_fault rest number p

-- the first fault of the bytes of a message, but for required slots
unfoldable pub first_fault : Schema → List ℕ → Option Refusal
first_fault s bytes = first_in (in_payload (payload_fault s)) (placed_fields bytes)

-- what is missing at the place `at`, where it is asked
abbrev pub missing_at : ℕ → Option Required → Option Refusal
missing_at at missing = option_map (λ which. refused at (MissingField which)) missing

-- the first fault of an entity; what is missing comes at its end
unfoldable pub entity_fault : List ℕ → Option Refusal
entity_fault p = option_or (first_fault entity p) (missing_at (length p) (missing entity (fields p)))

-- what is wrong with a payload of a snapshot
abbrev pub part_fault : ℕ → List ℕ → Option Refusal
part_fault number p = if number == 1 then first_fault feed_header p else (if number == 2 then entity_fault p else None)

-- what is wrong with a header at the snapshot's end: a missing slot, then DIFFERENTIAL
abbrev pub header_fault : ℕ → List WireField → Option Refusal
header_fault end l =
    option_or (missing_at end (missing feed_header l)) (if is_differential l then Some (refused end Differential) else None)

-- what is wrong at the snapshot's end
abbrev pub end_fault : ℕ → List WireField → Option Refusal
end_fault end l =
    option_or (missing_at end (missing feed_message l)) (if is_differential (header_fields l) then Some (refused end Differential)
    else None)

-- the first fault of a snapshot, and none where it is accepted
unfoldable pub refusal : List ℕ → Option Refusal
refusal bytes =
    if nat_lt snapshot_limit (length bytes) then Some (refused snapshot_limit TooLarge)
    else option_or (first_in (in_payload part_fault) (placed_fields bytes)) (end_fault (length bytes) (fields bytes))

-- what a check answers
abbrev pub Answers : Result (Unit {0}) Refusal → Option Refusal → Type 0
Answers (Ok u) fault = fault ≡ None
Answers (Err r) fault = fault ≡ Some r
