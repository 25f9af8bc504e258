-- A snapshot that is checked part by part: each entity by itself, and the parts of the header together at the end.
-- (Protocol Buffers, Encoding, "Last One Wins", "Submessages"; the order of faults is this profile's.)
use Rattle.std.specs.Prelude.{◌≡◌, ℕ, ◌≤◌, List, [], ◌∷◌, length, Option, Some, None}
use Rattle.std.specs.Option.{option_or}
use Rattle.std.specs.List.{AllByRecursion, concat, flat_map}
use Rattle.rt_wire.specs.Fields.{IsBytes}
use Rattle.rt_wire.specs.Placed.{placed_fields}
use Rattle.feed_values.specs.declared.required.Required.TheVariants as required
use Rattle.feed_values.specs.Messages.{feed_header}
use Rattle.feed_values.specs.Meaning.{fields, given, in_slot, payload_in}
use Rattle.feed_values.specs.Accepted.{snapshot_limit}
use Rattle.feed_codec.specs.declared.refusal.Reason.TheVariants.{MissingField}
use Rattle.feed_codec.specs.declared.refusal.Refusal.{Refusal}
use Rattle.feed_codec.specs.Refusal.{refused, first_in, in_payload, first_fault, part_fault, header_fault, refusal}

-- payloads of a header, each of which passes by itself
abbrev pub Passed : List (List ℕ) → Type 0
Passed ps = AllByRecursion (λ p. first_fault feed_header p ≡ None) ps

-- bytes that join payloads of a header
abbrev pub IsJoined : List ℕ → Type 0
IsJoined parts = (ps : List (List ℕ)) × Passed ps × (parts ≡ concat ps)

-- what the parts of the header say at the snapshot's end
abbrev pub header_end : ℕ → List (List ℕ) → Option Refusal
header_end at [] = Some (refused at (MissingField required.Header))
header_end at (p ∷ ps) = header_fault at (fields (concat (p ∷ ps)))

pub record PartsDecide : Type 0 where
  -- payloads that passed, joined, have the fields of all of them
  pub joined : (ps : List (List ℕ)) → IsBytes (concat ps) → Passed ps → fields (concat ps) ≡ flat_map fields ps
  -- a snapshot is refused as its parts are: the first fault of an entity or of a part of the header, and then what the joined header lacks
  pub refused : (bytes : List ℕ) → IsBytes bytes → length bytes ≤ snapshot_limit
      → refusal bytes
      ≡ option_or (first_in (in_payload part_fault) (placed_fields bytes))
      (header_end (length bytes) (given (in_slot payload_in 1) (fields bytes)))
