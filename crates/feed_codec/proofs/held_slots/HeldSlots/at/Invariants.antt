use Rattle.std.proofs.Common.{◌≡◌, [], ◌∷◌, length}
use Rattle.feed_values.specs.Meaning.{fields}
use Rattle.feed_codec.specs.Missing.{has_coordinate, is_there, lacks_text}
use Rattle.feed_codec.proofs.Deep.{walked}
use Rattle.feed_codec.proofs.held_slots.HeldSlots.at.Given as goal

abbrev pub invariant-loop-field : goal.invariant-loop-field
invariant-loop-field l = record {
  id : walked (is_there [] 1) l.fields.left l.found.id ≡ is_there [] 1 (fields l.entity);
  update : walked (is_there [] 3) l.fields.left l.found.update ≡ is_there [] 3 (fields l.entity);
  trip : walked (is_there (3 ∷ []) 1) l.fields.left l.found.trip ≡ is_there (3 ∷ []) 1 (fields l.entity);
  position : walked (is_there (4 ∷ []) 2) l.fields.left l.found.position.given ≡ is_there (4 ∷ []) 2 (fields l.entity);
  latitude : walked (has_coordinate 1) l.fields.left l.found.position.latitude ≡ has_coordinate 1 (fields l.entity);
  longitude : walked (has_coordinate 2) l.fields.left l.found.position.longitude ≡ has_coordinate 2 (fields l.entity);
  blank_text : walked lacks_text l.fields.left l.found.blank_text ≡ lacks_text (fields l.entity);
}

abbrev pub decreases-loop-field : goal.decreases-loop-field
decreases-loop-field l = length l.fields.left
