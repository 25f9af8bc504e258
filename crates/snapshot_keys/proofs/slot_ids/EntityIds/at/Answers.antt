use Rattle.std.proofs.Common.{◌≡◌, ◌∷◌, [], Ok, Err, ap, ◌∙◌}
use Rattle.rt_wire.specs.Placed.{placed_field}
use Rattle.std.specs.Option.{option_or}
use Rattle.feed_values.specs.Meaning.{whole_fields}
use Rattle.feed_codec.specs.LastPayloads.{last_at}
use Rattle.feed_codec.proofs.Lasts.{last_here, last_inside, only_so_far, walk_ends, walk_faults, walk_starts, walk_steps}
use Rattle.snapshot_keys.proofs.slot_ids.EntityIds.at.Goals as goal

pub loop-field-init : goal.loop-field-init
loop-field-init c = record {
  update_payload = ap (option_or (last_at [] 3 (whole_fields c.new-fields.result.left))) c.none.ensures.payload ∙ walk_starts [] 3 c.new-fields.result c.args.entity.now _ c.new-fields.ensures ∙ only_so_far _;
  update_trip = ap (option_or (last_at (3 ∷ 1 ∷ []) 1 (whole_fields c.new-fields.result.left))) c.none.ensures.trip ∙ walk_starts (3 ∷ 1 ∷ []) 1 c.new-fields.result c.args.entity.now _ c.new-fields.ensures ∙ only_so_far _;
  update_vehicle = ap (option_or (last_at (3 ∷ 3 ∷ []) 1 (whole_fields c.new-fields.result.left))) c.none.ensures.vehicle ∙ walk_starts (3 ∷ 3 ∷ []) 1 c.new-fields.result c.args.entity.now _ c.new-fields.ensures ∙ only_so_far _;
  vehicle_payload = ap (option_or (last_at [] 4 (whole_fields c.new-fields.result.left))) c.none-2.ensures.payload ∙ walk_starts [] 4 c.new-fields.result c.args.entity.now _ c.new-fields.ensures ∙ only_so_far _;
  vehicle_trip = ap (option_or (last_at (4 ∷ 1 ∷ []) 1 (whole_fields c.new-fields.result.left))) c.none-2.ensures.trip ∙ walk_starts (4 ∷ 1 ∷ []) 1 c.new-fields.result c.args.entity.now _ c.new-fields.ensures ∙ only_so_far _;
  vehicle_vehicle = ap (option_or (last_at (4 ∷ 8 ∷ []) 1 (whole_fields c.new-fields.result.left))) c.none-2.ensures.vehicle ∙ walk_starts (4 ∷ 8 ∷ []) 1 c.new-fields.result c.args.entity.now _ c.new-fields.ensures ∙ only_so_far _;
}

pub loop-field-preserved : goal.loop-field-preserved
loop-field-preserved c =
    let field = placed_field c.in-Ok.field in
    let next : c.loop-field.fields.left ≡ Ok field ∷ c.next.new.self.left = rw c.in-Ok.is at c.in-Some.ensures.next in
    record {
      update_payload = walk_steps [] 3 _ _ field _ _ _ _ next (last_here 3 field.field) c.and_field-found.ensures.payload c.loop-field.invariant.update_payload;
      update_trip = walk_steps (3 ∷ 1 ∷ []) 1 _ _ field _ _ _ _ next (last_inside 3 (1 ∷ []) 1 field.field) c.and_field-found.ensures.trip c.loop-field.invariant.update_trip;
      update_vehicle = walk_steps (3 ∷ 3 ∷ []) 1 _ _ field _ _ _ _ next (last_inside 3 (3 ∷ []) 1 field.field) c.and_field-found.ensures.vehicle c.loop-field.invariant.update_vehicle;
      vehicle_payload = walk_steps [] 4 _ _ field _ _ _ _ next (last_here 4 field.field) c.and_field-found-in-Ok.ensures.payload c.loop-field.invariant.vehicle_payload;
      vehicle_trip = walk_steps (4 ∷ 1 ∷ []) 1 _ _ field _ _ _ _ next (last_inside 4 (1 ∷ []) 1 field.field) c.and_field-found-in-Ok.ensures.trip c.loop-field.invariant.vehicle_trip;
      vehicle_vehicle = walk_steps (4 ∷ 8 ∷ []) 1 _ _ field _ _ _ _ next (last_inside 4 (8 ∷ []) 1 field.field) c.and_field-found-in-Ok.ensures.vehicle c.loop-field.invariant.vehicle_vehicle;
    }

pub returns-in-Err-clause-update : goal.returns-in-Err-clause-update
returns-in-Err-clause-update c =
    let next : c.loop-field.fields.left ≡ Err c.in-Err.field-0 ∷ c.next.new.self.left = rw c.in-Err.is at c.in-Some.ensures.next in
    record {
      payload = walk_faults [] 3 _ _ _ _ _ next c.loop-field.invariant.update_payload;
      trip = walk_faults (3 ∷ 1 ∷ []) 1 _ _ _ _ _ next c.loop-field.invariant.update_trip;
      vehicle = walk_faults (3 ∷ 3 ∷ []) 1 _ _ _ _ _ next c.loop-field.invariant.update_vehicle;
    }

pub returns-clause-update : goal.returns-clause-update
returns-clause-update c = record {
  payload = walk_ends [] 3 _ _ _ c.in_default.ensures.next.0 c.loop-field.invariant.update_payload;
  trip = walk_ends (3 ∷ 1 ∷ []) 1 _ _ _ c.in_default.ensures.next.0 c.loop-field.invariant.update_trip;
  vehicle = walk_ends (3 ∷ 3 ∷ []) 1 _ _ _ c.in_default.ensures.next.0 c.loop-field.invariant.update_vehicle;
}

pub returns-in-Err-clause-vehicle : goal.returns-in-Err-clause-vehicle
returns-in-Err-clause-vehicle c =
    let next : c.loop-field.fields.left ≡ Err c.in-Err.field-0 ∷ c.next.new.self.left = rw c.in-Err.is at c.in-Some.ensures.next in
    record {
      payload = walk_faults [] 4 _ _ _ _ _ next c.loop-field.invariant.vehicle_payload;
      trip = walk_faults (4 ∷ 1 ∷ []) 1 _ _ _ _ _ next c.loop-field.invariant.vehicle_trip;
      vehicle = walk_faults (4 ∷ 8 ∷ []) 1 _ _ _ _ _ next c.loop-field.invariant.vehicle_vehicle;
    }

pub returns-clause-vehicle : goal.returns-clause-vehicle
returns-clause-vehicle c = record {
  payload = walk_ends [] 4 _ _ _ c.in_default.ensures.next.0 c.loop-field.invariant.vehicle_payload;
  trip = walk_ends (4 ∷ 1 ∷ []) 1 _ _ _ c.in_default.ensures.next.0 c.loop-field.invariant.vehicle_trip;
  vehicle = walk_ends (4 ∷ 8 ∷ []) 1 _ _ _ c.in_default.ensures.next.0 c.loop-field.invariant.vehicle_vehicle;
}
