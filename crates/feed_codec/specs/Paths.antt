-- What is held in the messages at a path of slots, where the payloads of each slot are taken together.
-- (Protocol Buffers, Encoding, "Last One Wins", "Submessages".)
use Rattle.std.specs.Prelude.{ℕ, List, [], ◌∷◌, Bool, false, not}
use Rattle.std.specs.Option.{is_some}
use Rattle.std.specs.List.{flat_map, list_any}
use Rattle.rt_wire.specs.Fields.{WireField}
use Rattle.feed_values.specs.Schema.{Bits32}
use Rattle.feed_values.specs.Meaning.{fields, given, in_slot, payload_in, scalar_in, option_case}

-- the fields of all messages at a path of slots
abbrev pub deep : List ℕ → List WireField → List WireField
deep [] l = l
deep (n ∷ path) l = deep path (flat_map fields (given (in_slot payload_in n) l))

-- whether a field is a payload of slot n
abbrev pub is_payload : ℕ → WireField → Bool
is_payload n f = is_some (in_slot payload_in n f)

-- whether slot n of a message has a payload among these fields
abbrev pub has_payload : ℕ → List WireField → Bool
has_payload n l = list_any (is_payload n) l

-- whether a field is four bytes of slot n
abbrev pub is_fixed32 : ℕ → WireField → Bool
is_fixed32 n f = is_some (in_slot (scalar_in Bits32) n f)

-- whether a field is a message in slot n without a payload of slot `inner`
abbrev pub is_payload_without : ℕ → ℕ → WireField → Bool
is_payload_without n inner f = option_case (in_slot payload_in n f) false (λ p. not (has_payload inner (fields p)))

-- whether a field of the messages at a path passes a test
unfoldable pub holds : List ℕ → (WireField → Bool) → List WireField → Bool
holds path test l = list_any test (deep path l)
