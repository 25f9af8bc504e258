-- The last payload at a path of slots, where the payloads of each slot are taken together.
-- (Protocol Buffers, Encoding, "Last One Wins", "Submessages".)
use Rattle.std.specs.Prelude.{ℕ, List, Option, option_and_then}
use Rattle.rt_wire.specs.Fields.{WireField}
use Rattle.feed_values.specs.Meaning.{fields, given, in_slot, payload_in, last_of}
use Rattle.feed_codec.specs.Paths.{deep}

-- the last payload of slot n in the messages at a path
unfoldable pub last_at : List ℕ → ℕ → List WireField → Option (List ℕ)
last_at path n l = last_of (given (in_slot payload_in n) (deep path l))

-- and in a message that may be given
abbrev pub within : List ℕ → ℕ → Option (List ℕ) → Option (List ℕ)
within path n message = option_and_then (λ p. last_at path n (fields p)) message
