use Rattle.std.proofs.Common.{◌≡◌, ◌∷◌, [], length}
use Rattle.feed_values.specs.Meaning.{fields, whole_fields}
use Rattle.feed_codec.specs.Paths.{holds, is_payload}
use Rattle.feed_codec.proofs.paths.has_inner_payload.Given as goal

abbrev pub invariant-loop-field : goal.invariant-loop-field
invariant-loop-field l = holds (l.slot ∷ []) (is_payload l.number) (whole_fields l.fields.left) ≡ holds (l.slot ∷ []) (is_payload l.number) (fields l.bytes)

abbrev pub decreases-loop-field : goal.decreases-loop-field
decreases-loop-field l = length l.fields.left
