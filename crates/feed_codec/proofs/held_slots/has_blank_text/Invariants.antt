use Rattle.std.proofs.Common.{◌≡◌, length}
use Rattle.feed_values.specs.Meaning.{fields, whole_fields}
use Rattle.feed_codec.specs.Missing.{is_blank}
use Rattle.feed_codec.proofs.held_slots.has_blank_text.Given as goal

abbrev pub invariant-loop-field : goal.invariant-loop-field
invariant-loop-field l = is_blank (whole_fields l.fields.left) ≡ is_blank (fields l.alert)

abbrev pub decreases-loop-field : goal.decreases-loop-field
decreases-loop-field l = length l.fields.left
