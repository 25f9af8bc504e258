use Rattle.std.proofs.Common.{◌≡◌, ◌∷◌, [], Some, length, option_copied}
use Rattle.std.specs.Option.{option_or}
use Rattle.feed_values.specs.Meaning.{fields, whole_fields}
use Rattle.feed_codec.specs.LastPayloads.{last_at}
use Rattle.snapshot_keys.proofs.slot_ids.SlotIds.and_in.Given as goal

abbrev pub invariant-loop-field : goal.invariant-loop-field
invariant-loop-field l = record {
  payload : option_copied l.found.payload ≡ Some l.payload;
  trip : option_or (last_at (1 ∷ []) 1 (whole_fields l.fields.left)) (option_copied l.found.trip) ≡ option_or (last_at (1 ∷ []) 1 (fields l.payload)) (option_copied l.self.trip);
  vehicle : option_or (last_at (l.vehicle ∷ []) 1 (whole_fields l.fields.left)) (option_copied l.found.vehicle) ≡ option_or (last_at (l.vehicle ∷ []) 1 (fields l.payload)) (option_copied l.self.vehicle);
}

abbrev pub decreases-loop-field : goal.decreases-loop-field
decreases-loop-field l = length l.fields.left
