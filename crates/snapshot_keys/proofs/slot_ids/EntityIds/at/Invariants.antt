use Rattle.std.proofs.Common.{◌≡◌, ◌∷◌, [], length, option_copied}
use Rattle.std.specs.Option.{option_or}
use Rattle.feed_values.specs.Meaning.{fields, whole_fields}
use Rattle.feed_codec.specs.LastPayloads.{last_at}
use Rattle.snapshot_keys.proofs.slot_ids.EntityIds.at.Given as goal

abbrev pub invariant-loop-field : goal.invariant-loop-field
invariant-loop-field l = record {
  update_payload : option_or (last_at [] 3 (whole_fields l.fields.left)) (option_copied l.found.update.payload) ≡ last_at [] 3 (fields l.entity);
  update_trip : option_or (last_at (3 ∷ 1 ∷ []) 1 (whole_fields l.fields.left)) (option_copied l.found.update.trip) ≡ last_at (3 ∷ 1 ∷ []) 1 (fields l.entity);
  update_vehicle : option_or (last_at (3 ∷ 3 ∷ []) 1 (whole_fields l.fields.left)) (option_copied l.found.update.vehicle) ≡ last_at (3 ∷ 3 ∷ []) 1 (fields l.entity);
  vehicle_payload : option_or (last_at [] 4 (whole_fields l.fields.left)) (option_copied l.found.vehicle.payload) ≡ last_at [] 4 (fields l.entity);
  vehicle_trip : option_or (last_at (4 ∷ 1 ∷ []) 1 (whole_fields l.fields.left)) (option_copied l.found.vehicle.trip) ≡ last_at (4 ∷ 1 ∷ []) 1 (fields l.entity);
  vehicle_vehicle : option_or (last_at (4 ∷ 8 ∷ []) 1 (whole_fields l.fields.left)) (option_copied l.found.vehicle.vehicle) ≡ last_at (4 ∷ 8 ∷ []) 1 (fields l.entity);
}

abbrev pub decreases-loop-field : goal.decreases-loop-field
decreases-loop-field l = length l.fields.left
