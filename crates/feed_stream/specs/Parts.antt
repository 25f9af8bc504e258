-- Ranges of a snapshot's bytes.
use Rattle.std.specs.Prelude.{ℕ, ◌≤◌, List, [], ◌∷◌, Option, Some, None, length, slice_range}
use Rattle.rt_wire.specs.Placed.{PlacedField}
use Rattle.feed_values.specs.Meaning.{in_slot, payload_in, option_case}
use Rattle.feed_stream.specs.declared.part.Part.{Part}
use Rattle.feed_stream.specs.declared.header.Header.{Header}
use Rattle.feed_stream.specs.declared.header.Header.TheVariants as held
use Rattle.feed_stream.specs.Payloads.{Payload}

pub record IsWithin (bytes : List ℕ) (part : Part) : Type 0 where
  pub order : part.start ≤ part.end
  pub within : part.end ≤ length bytes

abbrev pub part_bytes : List ℕ → Part → List ℕ
part_bytes bytes part = slice_range bytes part.start part.end

abbrev pub payload_at : List ℕ → Part → Payload
payload_at bytes part = record { base = part.start; bytes = part_bytes bytes part }

-- the range of a field's payload, where the field is of slot n
abbrev pub parts_in : ℕ → PlacedField → List Part
parts_in n f = option_case (in_slot payload_in n f.field) [] (λ p. record { start = f.body; end = f.stop } ∷ [])

abbrev pub IsHeader : List ℕ → Header → Type 0
IsHeader bytes held.Missing = Unit {0}
IsHeader bytes (held.Whole part) = IsWithin bytes part
IsHeader bytes (held.Joined parts) = Unit {0}

-- the payloads of the header, joined, where one came
abbrev pub header_held : List ℕ → Header → Option (List ℕ)
header_held bytes held.Missing = None
header_held bytes (held.Whole part) = Some (part_bytes bytes part)
header_held bytes (held.Joined parts) = Some parts.items

-- and no bytes where none came
abbrev pub header_bytes : List ℕ → Header → List ℕ
header_bytes bytes held.Missing = []
header_bytes bytes (held.Whole part) = part_bytes bytes part
header_bytes bytes (held.Joined parts) = parts.items
