use Rattle.std.proofs.Common.{◌≡◌, length}
use Rattle.feed_values.specs.Meaning.{fields, whole_fields}
use Rattle.feed_codec.specs.Paths.{has_payload}
use Rattle.feed_codec.proofs.paths.has_payload.Given as goal

abbrev pub invariant-loop-field : goal.invariant-loop-field
invariant-loop-field l = has_payload l.number (whole_fields l.fields.left) ≡ has_payload l.number (fields l.bytes)

abbrev pub decreases-loop-field : goal.decreases-loop-field
decreases-loop-field l = length l.fields.left
