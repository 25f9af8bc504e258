-- What was found in the file of a snapshot, as values.
use Rattle.std.specs.Prelude.{ℕ, List, Option, Some, None, Result, Ok, Err}
use Rattle.feed_values.specs.declared.feed_message.FeedMessage.{FeedMessage}
use Rattle.feed_values.specs.Schema.{Value}
use Rattle.feed_values.specs.Messages.{feed_message}
use Rattle.feed_values.specs.Snapshot.{snapshot_value}
use Rattle.feed_values.specs.Views.{feed_message_value}
use Rattle.feed_codec.specs.declared.refusal.Reason.TheVariants.{NoFile}
use Rattle.feed_codec.specs.declared.refusal.Refusal.{Refusal}
use Rattle.feed_codec.specs.Refusal.{refusal, refused}
use Rattle.feed_stream.specs.declared.kept.Kept.{Kept}

-- the value of an accepted snapshot, or why it is refused
abbrev pub found_value : Result FeedMessage Refusal → Result (Value feed_message) Refusal
found_value (Ok message) = Ok (feed_message_value message)
found_value (Err refusal) = Err refusal

-- the snapshot of a file, which holds these bytes or isn't held: its value, or its first fault
abbrev pub decoded : List ℕ → Option Refusal → Result (Value feed_message) Refusal
decoded bytes (Some refusal) = Err refusal
decoded bytes None = Ok (snapshot_value bytes)

abbrev pub snapshot_in : Option (List ℕ) → Result (Value feed_message) Refusal
snapshot_in None = Err (refused 0 NoFile)
snapshot_in (Some bytes) = decoded bytes (refusal bytes)

-- ---- as its bytes
-- the bytes of the accepted snapshot in a file that is held or not, or why it is refused
abbrev pub unless_faulty : List ℕ → Option Refusal → Result (List ℕ) Refusal
unless_faulty bytes None = Ok bytes
unless_faulty bytes (Some why) = Err why

abbrev pub bytes_in : Option (List ℕ) → Result (List ℕ) Refusal
bytes_in None = Err (refused 0 NoFile)
bytes_in (Some bytes) = unless_faulty bytes (refusal bytes)

-- the bytes of a snapshot that is kept, or why it is refused
abbrev pub kept_bytes : Result Kept Refusal → Result (List ℕ) Refusal
kept_bytes (Ok kept) = Ok kept
kept_bytes (Err why) = Err why
