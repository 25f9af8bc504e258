use Rattle.std.proofs.Common.{◌≡◌, ◌||◌, [], ◌∷◌, length}
use Rattle.feed_values.specs.Meaning.{fields}
use Rattle.feed_codec.specs.Paths.{holds, is_fixed32, is_payload}
use Rattle.feed_codec.proofs.Deep.{walked}
use Rattle.feed_codec.proofs.held_slots.HeldPosition.and_in_vehicle.Given as goal

abbrev pub invariant-loop-field : goal.invariant-loop-field
invariant-loop-field l = record {
  given : walked (holds [] (is_payload 2)) l.fields.left l.found.given ≡ (l.fn.self.given || holds [] (is_payload 2) (fields l.vehicle));
  latitude : walked (holds (2 ∷ []) (is_fixed32 1)) l.fields.left l.found.latitude ≡ (l.fn.self.latitude || holds (2 ∷ []) (is_fixed32 1) (fields l.vehicle));
  longitude : walked (holds (2 ∷ []) (is_fixed32 2)) l.fields.left l.found.longitude ≡ (l.fn.self.longitude || holds (2 ∷ []) (is_fixed32 2) (fields l.vehicle));
}

abbrev pub decreases-loop-field : goal.decreases-loop-field
decreases-loop-field l = length l.fields.left
