use Rattle.std.proofs.Common.{◌≡◌, [], length}
use Rattle.feed_values.specs.Meaning.{fields, whole_fields}
use Rattle.feed_codec.specs.Paths.{holds, is_payload_without}
use Rattle.feed_codec.proofs.held_slots.has_blank_translation.Given as goal

abbrev pub invariant-loop-field : goal.invariant-loop-field
invariant-loop-field l = holds [] (is_payload_without 1 1) (whole_fields l.fields.left) ≡ holds [] (is_payload_without 1 1) (fields l.text)

abbrev pub decreases-loop-field : goal.decreases-loop-field
decreases-loop-field l = length l.fields.left
