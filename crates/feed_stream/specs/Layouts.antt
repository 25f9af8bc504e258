-- Where the header and the entities of a snapshot lie in its bytes.
use Rattle.std.specs.Prelude.{◌≡◌, ℕ, List, [], ◌∷◌, ◌++◌, map, Option, Some, Result, unwrap_or}
use Rattle.std.specs.List.{AllByRecursion, concat}
use Rattle.rt_wire.specs.declared.fault.WireFault.{WireFault}
use Rattle.rt_wire.specs.Placed.{PlacedField, placed_fields}
use Rattle.feed_stream.specs.declared.layout.Layout.{Layout}
use Rattle.feed_stream.specs.Payloads.{payloads_in, joined_header}
use Rattle.feed_stream.specs.Parts.{IsWithin, IsHeader, header_held, part_bytes, parts_in, payload_at}

-- The layout of what is handed out of some bytes: the ranges of the entities' payloads, and the payloads of the header, joined, where one
-- came.
pub record IsLayoutOf (bytes : List ℕ) (parts : List (Result PlacedField WireFault)) (layout : Layout) : Type 0 where
  pub entities : map (payload_at bytes) layout.entities.items ≡ payloads_in 2 parts
  pub entities_within : AllByRecursion (IsWithin bytes) layout.entities.items
  pub header : header_held bytes layout.header ≡ joined_header (map (λ p. p.bytes) (payloads_in 1 parts))
  pub header_within : IsHeader bytes layout.header

abbrev pub IsLayout : List ℕ → Layout → Type 0
IsLayout bytes layout = IsLayoutOf bytes (placed_fields bytes) layout

-- a header that may have come, with more payloads behind
abbrev pub header_more : Option (List ℕ) → List (List ℕ) → Option (List ℕ)
header_more held [] = held
header_more held (p ∷ ps) = Some (unwrap_or held [] ++ concat (p ∷ ps))

-- one more field: its payload goes to the header or to the entities, by its number
pub record TakesField (bytes : List ℕ) (f : PlacedField) (old new : Layout) : Type 0 where
  pub entities : new.entities.items ≡ old.entities.items ++ parts_in 2 f
  pub header : header_held bytes new.header ≡ header_more (header_held bytes old.header) (map (part_bytes bytes) (parts_in 1 f))
  pub header_within : IsHeader bytes new.header
