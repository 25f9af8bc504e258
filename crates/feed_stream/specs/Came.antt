-- Which bytes may have come to a splitter, by what it holds.
use Rattle.std.specs.Prelude.{◌≡◌, ℕ, ◌≤◌, ◌<◌, List, length, take, map}
use Rattle.rt_wire.specs.Fields.{IsBytes}
use Rattle.rt_wire.specs.Placed.{placed_fields}
use Rattle.feed_values.specs.Accepted.{snapshot_limit}
use Rattle.feed_codec.specs.declared.refusal.Refusal.{Refusal}
use Rattle.feed_stream.specs.Payloads.{payloads_in, header_payloads, joined_header}
use Rattle.feed_stream.specs.Parts.{payload_at}
use Rattle.feed_stream.specs.Walks.{WalkedTo, EndsEarly}
use Rattle.feed_stream.specs.Settled.{IsSettled}
use Rattle.feed_stream.specs.Sofar.{Walked, Held, refused, walked, Sofar}

-- the bytes were gone through so far, and no refusal is settled for them
pub record IsWalked (b : List ℕ) (w : Walked) : Type 0 where
  pub bytes_are : w.bytes ≡ b
  pub walked_to : WalkedTo b w.next
  pub entities : map (payload_at b) w.entities ≡ payloads_in 2 (placed_fields (take w.next b))
  pub header : w.header ≡ joined_header (header_payloads (take w.next b))
  pub rest : EndsEarly b w.next w.unfinished
  pub none_settled : (r : Refusal) → IsSettled b r → ⊥

abbrev pub Holds : List ℕ → Held → Type 0
Holds b (refused r) = IsSettled b r
Holds b (walked w) = IsWalked b w

-- The bytes came: within the limit they are counted, and refused for what is settled or else held; past it their count is past it.
pub record Came (b : List ℕ) (s : Sofar) : Type 0 where
  pub bytes_are : IsBytes b
  pub within : length b ≤ snapshot_limit → (s.count ≡ length b) × Holds b s.held
  pub over : snapshot_limit < length b → snapshot_limit < s.count
