-- What is missing in an entity is the first required slot in their order that it lacks.
use Rattle.std.proofs.Common.{◌≡◌, Bool, true, false, not, cond, ◌&&◌, ◌||◌, List, [], ◌∷◌, Option, Some, None, refl, ◌∙◌}
use Rattle.std.specs.Option.{option_or}
use Rattle.rt_wire.specs.Fields.{WireField}
use Rattle.feed_values.specs.declared.required.Required.{Required}
use Rattle.feed_values.specs.declared.required.Required.TheVariants.{Id, Trip, Latitude, Longitude, Text}
use Rattle.feed_values.specs.Messages.{entity}
use Rattle.feed_values.specs.Accepted.{missing}
use Rattle.feed_codec.specs.Paths.{holds, is_fixed32}
use Rattle.feed_codec.specs.declared.held_slots.HeldSlots.{HeldSlots}
use Rattle.feed_codec.specs.Missing.{is_there, has_blank_translation, AreHeld, MissingIsFirst}
use Rattle.feed_codec.proofs.RequiredSlots.{missing_trip, missing_coordinate, missing_text, missing_entity}

-- the first of five that is lacking, in order
abbrev first_of_five : Bool → Bool → Bool → Bool → Bool → Option Required
first_of_five id trip latitude longitude text =
    cond id (Some Id) (cond trip (Some Trip) (cond latitude (Some Latitude) (cond longitude (Some Longitude) (cond text (Some Text) None))))

-- a trip update, and its trip
abbrev trip_answer : Bool → Bool → Option Required
trip_answer update trip = cond update (cond trip None (Some Trip)) None

abbrev place_answer : Bool → Bool → Bool → Option Required
place_answer place latitude longitude = cond place (cond latitude (cond longitude None (Some Longitude)) (Some Latitude)) None

abbrev text_answer : Bool → Bool → Bool → Option Required
text_answer a b c = cond a (Some Text) (cond b (Some Text) (cond c (Some Text) None))

text_first : (a b c : Bool) → text_answer a b c ≡ cond (a || (b || c)) (Some Text) None
text_first true b c = refl
text_first false true c = refl
text_first false false true = refl
text_first false false false = refl

place_first : (place latitude longitude text : Bool) → option_or (place_answer place latitude longitude) (cond text (Some Text) None)
    ≡ cond (place && not latitude) (Some Latitude) (cond (place && not longitude) (Some Longitude) (cond text (Some Text) None))
place_first false latitude longitude text = refl
place_first true true true text = refl
place_first true true false text = refl
place_first true false longitude text = refl

trip_first : (update trip : Bool) (o : Option Required) → option_or (trip_answer update trip) o ≡ cond (update && not trip) (Some Trip) o
trip_first false trip o = refl
trip_first true true o = refl
trip_first true false o = refl

id_first : (id : Bool) (o : Option Required) → cond id o (Some Id) ≡ cond (not id) (Some Id) o
id_first true o = refl
id_first false o = refl

in_order : (id update trip place latitude longitude a b c : Bool)
    → cond id (option_or (trip_answer update trip) (option_or (place_answer place latitude longitude) (text_answer a b c))) (Some Id)
    ≡ first_of_five (not id) (update && not trip) (place && not latitude) (place && not longitude) (a || (b || c))
in_order id update trip place latitude longitude a b c =
    rw (text_first a b c, place_first place latitude longitude (a || (b || c)), trip_first update trip (cond (place && not latitude) (Some Latitude) (cond (place && not longitude) (Some Longitude) (cond (a || (b || c)) (Some Text) None))))
    (id_first id _)

pub missing_is_first : MissingIsFirst
missing_is_first l =
    missing_entity l ∙ rw (missing_trip l, missing_coordinate l, missing_text l)
    (in_order (is_there [] 1 l) (is_there [] 3 l) (is_there (3 ∷ []) 1 l) (is_there (4 ∷ []) 2 l) (holds (4 ∷ 2 ∷ []) (is_fixed32 1) l) (holds (4 ∷ 2 ∷ []) (is_fixed32 2) l)
    (has_blank_translation 8 l) (has_blank_translation 10 l) (has_blank_translation 11 l))

pub first_lacking : (h : HeldSlots) (l : List WireField) → AreHeld h l → missing entity l
    ≡ first_of_five (not h.id) (h.update && not h.trip) (h.position.given && not h.position.latitude) (h.position.given && not h.position.longitude) h.blank_text
first_lacking h l held = missing_is_first l ∙ rw (held.id, held.update, held.trip, held.position, held.latitude, held.longitude, held.blank_text) refl
