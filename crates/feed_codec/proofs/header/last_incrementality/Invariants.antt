use Rattle.std.proofs.Common.{◌≡◌, length}
use Rattle.std.specs.Option.{option_or}
use Rattle.feed_values.specs.Meaning.{fields, whole_fields, last_of}
use Rattle.feed_values.specs.Accepted.{incrementalities}
use Rattle.feed_values.specs.Views.{natural}
use Rattle.feed_codec.proofs.header.last_incrementality.Given as goal

-- what is held, and what the fields that are left give, are together what all give
abbrev pub invariant-loop-field : goal.invariant-loop-field
invariant-loop-field l = option_or (last_of (incrementalities (whole_fields l.fields.left))) (natural l.held) ≡ last_of (incrementalities (fields l.parts))

abbrev pub decreases-loop-field : goal.decreases-loop-field
decreases-loop-field l = length l.fields.left
