-- The payloads in a snapshot, and where they begin in its bytes.
-- (Protocol Buffers, Encoding, "Message Structure"; GTFS Realtime Reference 2.0, "FeedMessage".)
use Rattle.std.specs.Prelude.{ℕ, List, [], ◌∷◌, map, Option, Some, None, Result, Ok, Err}
use Rattle.std.specs.Option.{option_map}
use Rattle.std.specs.List.{concat}
use Rattle.rt_wire.specs.declared.fault.WireFault.{WireFault}
use Rattle.rt_wire.specs.Placed.{PlacedField, placed_fields}
use Rattle.feed_values.specs.Meaning.{fields, given, in_slot, payload_in, option_case}

-- a payload, and the place of its first byte
pub record Payload : Type 0 where
  pub base : ℕ
  pub bytes : List ℕ

-- the payload of a field of slot n, which begins where the field's value does
abbrev pub payload_of : ℕ → PlacedField → Option Payload
payload_of n f = option_map (λ p. record { base = f.body; bytes = p }) (in_slot payload_in n f.field)

-- the payloads of slot n among what is handed out of a message, in order
abbrev pub payloads_in : ℕ → List (Result PlacedField WireFault) → List Payload
payloads_in n [] = []
payloads_in n (Ok f ∷ rest) = option_case (payload_of n f) (payloads_in n rest) (λ p. p ∷ payloads_in n rest)
payloads_in n (Err fault ∷ rest) = []

-- where the payloads of a snapshot's entities begin, in order: the places from which faults inside them are counted
abbrev pub entity_bases : List ℕ → List ℕ
entity_bases bytes = map (λ p. p.base) (payloads_in 2 (placed_fields bytes))

-- the payloads of a snapshot's header, in order
abbrev pub header_payloads : List ℕ → List (List ℕ)
header_payloads bytes = given (in_slot payload_in 1) (fields bytes)

-- payloads of a header, joined, where there is one
abbrev pub joined_header : List (List ℕ) → Option (List ℕ)
joined_header [] = None
joined_header (p ∷ ps) = Some (concat (p ∷ ps))
