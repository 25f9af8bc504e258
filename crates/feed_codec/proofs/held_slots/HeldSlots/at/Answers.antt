use Rattle.std.proofs.Common.{◌≡◌, ◌∷◌, [], ℕ, List, false, Ok, Err, ap, ◌∙◌}
use Rattle.rt_wire.specs.Placed.{placed_field}
use Rattle.feed_codec.specs.Paths.{is_fixed32, is_payload}
use Rattle.feed_codec.specs.Missing.{has_coordinate, is_there, lacks_text}
use Rattle.feed_codec.proofs.Deep.{IsSpread, holds_spread, text_spread, walk_ends, walk_faults, walk_starts, walk_steps, walked}
use Rattle.feed_codec.proofs.held_slots.HeldSlots.at.Goals as goal

there : (path : List ℕ) (n : ℕ) → IsSpread (is_there path n)
there path n = holds_spread path (is_payload n)

coordinate : (n : ℕ) → IsSpread (has_coordinate n)
coordinate n = holds_spread (4 ∷ 2 ∷ []) (is_fixed32 n)

pub loop-field-init : goal.loop-field-init
loop-field-init c = record {
  id = walk_starts (is_there [] 1) c.new-fields.result c.args.entity.now false c.new-fields.ensures;
  update = walk_starts (is_there [] 3) c.new-fields.result c.args.entity.now false c.new-fields.ensures;
  trip = walk_starts (is_there (3 ∷ []) 1) c.new-fields.result c.args.entity.now false c.new-fields.ensures;
  position = ap (walked (is_there (4 ∷ []) 2) c.new-fields.result.left) c.none.ensures.given ∙ walk_starts (is_there (4 ∷ []) 2) c.new-fields.result c.args.entity.now false c.new-fields.ensures;
  latitude = ap (walked (has_coordinate 1) c.new-fields.result.left) c.none.ensures.latitude ∙ walk_starts (has_coordinate 1) c.new-fields.result c.args.entity.now false c.new-fields.ensures;
  longitude = ap (walked (has_coordinate 2) c.new-fields.result.left) c.none.ensures.longitude ∙ walk_starts (has_coordinate 2) c.new-fields.result c.args.entity.now false c.new-fields.ensures;
  blank_text = walk_starts lacks_text c.new-fields.result c.args.entity.now false c.new-fields.ensures;
}

pub loop-field-preserved : goal.loop-field-preserved
loop-field-preserved c =
    let field = placed_field c.in-Ok.field in
    let next : c.loop-field.fields.left ≡ Ok field ∷ c.next.new.self.left = rw c.in-Ok.is at c.in-Some.ensures.next in
    record {
      id = walk_steps (is_there [] 1) (there [] 1) _ _ field _ _ _ next c.and_field-found.ensures.id c.loop-field.invariant.id;
      update = walk_steps (is_there [] 3) (there [] 3) _ _ field _ _ _ next c.and_field-found.ensures.update c.loop-field.invariant.update;
      trip = walk_steps (is_there (3 ∷ []) 1) (there (3 ∷ []) 1) _ _ field _ _ _ next c.and_field-found.ensures.trip c.loop-field.invariant.trip;
      position = walk_steps (is_there (4 ∷ []) 2) (there (4 ∷ []) 2) _ _ field _ _ _ next c.and_field-found.ensures.position c.loop-field.invariant.position;
      latitude = walk_steps (has_coordinate 1) (coordinate 1) _ _ field _ _ _ next c.and_field-found.ensures.latitude c.loop-field.invariant.latitude;
      longitude = walk_steps (has_coordinate 2) (coordinate 2) _ _ field _ _ _ next c.and_field-found.ensures.longitude c.loop-field.invariant.longitude;
      blank_text = walk_steps lacks_text text_spread _ _ field _ _ _ next c.and_field-found.ensures.blank_text c.loop-field.invariant.blank_text;
    }

pub returns-in-Err : goal.returns-in-Err
returns-in-Err c =
    let next : c.loop-field.fields.left ≡ Err c.in-Err.field-0 ∷ c.next.new.self.left = rw c.in-Err.is at c.in-Some.ensures.next in
    record {
      id = walk_faults (is_there [] 1) (there [] 1) _ _ _ _ _ next c.loop-field.invariant.id;
      update = walk_faults (is_there [] 3) (there [] 3) _ _ _ _ _ next c.loop-field.invariant.update;
      trip = walk_faults (is_there (3 ∷ []) 1) (there (3 ∷ []) 1) _ _ _ _ _ next c.loop-field.invariant.trip;
      position = walk_faults (is_there (4 ∷ []) 2) (there (4 ∷ []) 2) _ _ _ _ _ next c.loop-field.invariant.position;
      latitude = walk_faults (has_coordinate 1) (coordinate 1) _ _ _ _ _ next c.loop-field.invariant.latitude;
      longitude = walk_faults (has_coordinate 2) (coordinate 2) _ _ _ _ _ next c.loop-field.invariant.longitude;
      blank_text = walk_faults lacks_text text_spread _ _ _ _ _ next c.loop-field.invariant.blank_text;
    }

pub returns : goal.returns
returns c = record {
  id = walk_ends (is_there [] 1) (there [] 1) _ _ _ c.in_default.ensures.next.0 c.loop-field.invariant.id;
  update = walk_ends (is_there [] 3) (there [] 3) _ _ _ c.in_default.ensures.next.0 c.loop-field.invariant.update;
  trip = walk_ends (is_there (3 ∷ []) 1) (there (3 ∷ []) 1) _ _ _ c.in_default.ensures.next.0 c.loop-field.invariant.trip;
  position = walk_ends (is_there (4 ∷ []) 2) (there (4 ∷ []) 2) _ _ _ c.in_default.ensures.next.0 c.loop-field.invariant.position;
  latitude = walk_ends (has_coordinate 1) (coordinate 1) _ _ _ c.in_default.ensures.next.0 c.loop-field.invariant.latitude;
  longitude = walk_ends (has_coordinate 2) (coordinate 2) _ _ _ c.in_default.ensures.next.0 c.loop-field.invariant.longitude;
  blank_text = walk_ends lacks_text text_spread _ _ _ c.in_default.ensures.next.0 c.loop-field.invariant.blank_text;
}
