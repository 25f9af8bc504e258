use Rattle.std.proofs.Common.{◌≡◌, ◌||◌, [], true, length}
use Rattle.feed_values.specs.Meaning.{fields}
use Rattle.feed_codec.specs.Paths.{holds, is_fixed32}
use Rattle.feed_codec.proofs.Deep.{walked}
use Rattle.feed_codec.proofs.held_slots.HeldPosition.and_in.Given as goal

abbrev pub invariant-loop-field : goal.invariant-loop-field
invariant-loop-field l = record {
  given : l.found.given ≡ true;
  latitude : walked (holds [] (is_fixed32 1)) l.fields.left l.found.latitude ≡ (l.fn.self.latitude || holds [] (is_fixed32 1) (fields l.position));
  longitude : walked (holds [] (is_fixed32 2)) l.fields.left l.found.longitude ≡ (l.fn.self.longitude || holds [] (is_fixed32 2) (fields l.position));
}

abbrev pub decreases-loop-field : goal.decreases-loop-field
decreases-loop-field l = length l.fields.left
