use Rattle.std.proofs.Common.{length}
use Rattle.feed_cases.proofs.wire.say_fields.Given as goal

abbrev pub decreases-loop-field : goal.decreases-loop-field
decreases-loop-field l = length l.fields.left
