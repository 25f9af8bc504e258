use Rattle.std.proofs.Common.{◌≡◌, ◌∷◌, [], None, Ok, Err, refl, ap, ◌∙◌}
use Rattle.rt_wire.specs.Placed.{placed_field}
use Rattle.feed_codec.specs.LastPayloads.{within}
use Rattle.feed_codec.proofs.Lasts.{last_inside, other_slot, walk_ends, walk_faults, walk_starts, walk_steps}
use Rattle.snapshot_keys.proofs.slot_ids.SlotIds.and_in.Goals as goal

pub loop-field-init : goal.loop-field-init
loop-field-init c = record {
  payload = refl;
  trip = walk_starts (1 ∷ []) 1 c.new-fields.result c.args.payload.now _ c.new-fields.ensures;
  vehicle = walk_starts (c.args.vehicle ∷ []) 1 c.new-fields.result c.args.payload.now _ c.new-fields.ensures;
}

pub loop-field-preserved-in-Ok : goal.loop-field-preserved-in-Ok
loop-field-preserved-in-Ok c =
    let field = placed_field c.in-Ok.field in
    let next : c.loop-field.fields.left ≡ Ok field ∷ c.next.new.self.left = rw c.in-Ok.is at c.in-Some.ensures.next in
    record {
      payload = c.loop-field.invariant.payload;
      trip = walk_steps (1 ∷ []) 1 _ _ field _ _ _ _ next (last_inside 1 [] 1 field.field) c.id_after-found.ensures c.loop-field.invariant.trip;
      vehicle = walk_steps (c.args.vehicle ∷ []) 1 _ _ field _ _ _ _ next (last_inside c.args.vehicle [] 1 field.field) c.id_after-found-then-field-eq-TRIP.ensures c.loop-field.invariant.vehicle;
    }

-- a field of another slot
pub loop-field-preserved : goal.loop-field-preserved
loop-field-preserved c =
    let field = placed_field c.in-Ok.field in
    let next : c.loop-field.fields.left ≡ Ok field ∷ c.next.new.self.left = rw c.in-Ok.is at c.in-Some.ensures.next in
    record {
      payload = c.loop-field.invariant.payload;
      trip = walk_steps (1 ∷ []) 1 _ _ field None _ _ _ next (ap (within [] 1) (other_slot 1 field.field c.if-field-eq-TRIP.false) ∙ last_inside 1 [] 1 field.field) refl c.loop-field.invariant.trip;
      vehicle = walk_steps (c.args.vehicle ∷ []) 1 _ _ field None _ _ _ next (ap (within [] 1) (other_slot c.args.vehicle field.field c.if-field-vehicle.false) ∙ last_inside c.args.vehicle [] 1 field.field) refl c.loop-field.invariant.vehicle;
    }

pub returns-in-Err-clause-trip : goal.returns-in-Err-clause-trip
returns-in-Err-clause-trip c =
    let next : c.loop-field.fields.left ≡ Err c.in-Err.field-0 ∷ c.next.new.self.left = rw c.in-Err.is at c.in-Some.ensures.next in
    walk_faults (1 ∷ []) 1 _ _ _ _ _ next c.loop-field.invariant.trip

pub returns-in-Err-clause-vehicle : goal.returns-in-Err-clause-vehicle
returns-in-Err-clause-vehicle c =
    let next : c.loop-field.fields.left ≡ Err c.in-Err.field-0 ∷ c.next.new.self.left = rw c.in-Err.is at c.in-Some.ensures.next in
    walk_faults (c.args.vehicle ∷ []) 1 _ _ _ _ _ next c.loop-field.invariant.vehicle

pub returns-clause-trip : goal.returns-clause-trip
returns-clause-trip c = walk_ends (1 ∷ []) 1 _ _ _ c.in_default.ensures.next.0 c.loop-field.invariant.trip

pub returns-clause-vehicle : goal.returns-clause-vehicle
returns-clause-vehicle c = walk_ends (c.args.vehicle ∷ []) 1 _ _ _ c.in_default.ensures.next.0 c.loop-field.invariant.vehicle
