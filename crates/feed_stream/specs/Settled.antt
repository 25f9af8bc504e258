-- Refusals that stay, whatever bytes follow within the limit.
-- (Protocol Buffers, Encoding, "Message Structure"; this profile.)
use Rattle.std.specs.Prelude.{◌≡◌, ℕ, ◌≤◌, List, ◌++◌, length, Some}
use Rattle.rt_wire.specs.Fields.{IsBytes}
use Rattle.field_pieces.specs.Stays.{Stays}
use Rattle.feed_values.specs.Accepted.{snapshot_limit}
use Rattle.feed_codec.specs.declared.refusal.Refusal.{Refusal}
use Rattle.feed_codec.specs.Refusal.{refusal}
use Rattle.feed_codec.specs.FirstFault.{FrontGoesWrong, no_field, inside, FirstIn, PartWhole, PartWrong}

-- It stays wrong: a field of the snapshot that doesn't just end too early; or anything in the payload of a whole field of it.
abbrev pub StaysWrong : (bytes : List ℕ) (r : Refusal) → FrontGoesWrong PartWrong bytes r → Type 0
StaysWrong bytes r (no_field f own is) = Stays f.reason
StaysWrong bytes r (inside f spelled more p inner is s given wrong place) = Unit {0}

-- The first fault of these bytes, and of all bytes within the limit that begin with them.
pub record IsSettled (bytes : List ℕ) (r : Refusal) : Type 0 where
  pub within : length bytes ≤ snapshot_limit
  pub first : FirstIn PartWhole PartWrong bytes r
  pub stays : StaysWrong first.rest first.first first.wrong

pub record SettledStays : Type 0 where
  pub refused : (b c : List ℕ) (r : Refusal) → IsBytes (b ++ c) → length (b ++ c) ≤ snapshot_limit → IsSettled b r → refusal (b ++ c) ≡ Some r
  pub settled : (b c : List ℕ) (r : Refusal) → length (b ++ c) ≤ snapshot_limit → IsSettled b r → IsSettled (b ++ c) r
