-- The first required slot that an entity lacks, by the order of the slots.
-- (GTFS Realtime Reference 2.0, "Element Index"; the order is this profile's.)
use Rattle.std.specs.Prelude.{◌≡◌, ℕ, List, [], ◌∷◌, Bool, false, not, ◌&&◌, ◌||◌, find}
use Rattle.rt_wire.specs.Fields.{WireField}
use Rattle.feed_values.specs.declared.required.Required.{Required}
use Rattle.feed_values.specs.declared.required.Required.TheVariants.{Header, Version, Id, Trip, Latitude, Longitude, Text}
use Rattle.feed_values.specs.Messages.{entity}
use Rattle.feed_values.specs.Accepted.{missing}
use Rattle.feed_codec.specs.declared.held_slots.HeldSlots.{HeldSlots}
use Rattle.feed_codec.specs.Paths.{holds, is_payload, is_fixed32, is_payload_without}

-- the required slots of an entity and of the messages in it, in the order in which they are asked for
abbrev pub required_order : List Required
required_order = Id ∷ Trip ∷ Latitude ∷ Longitude ∷ Text ∷ []

-- whether a payload of slot n is in the messages at a path
abbrev pub is_there : List ℕ → ℕ → List WireField → Bool
is_there path n l = holds path (is_payload n) l

-- whether a coordinate is in the positions, slot 2, of the vehicle positions of an entity, slot 4
abbrev pub has_coordinate : ℕ → List WireField → Bool
has_coordinate n l = holds (4 ∷ 2 ∷ []) (is_fixed32 n) l

-- whether an alert of an entity has in its slot n, which is of translated texts, a translation without a text
abbrev pub has_blank_translation : ℕ → List WireField → Bool
has_blank_translation n l = holds (5 ∷ n ∷ []) (is_payload_without 1 1) l

-- and whether one has, in any of these slots
abbrev pub lacks_text : List WireField → Bool
lacks_text l = has_blank_translation 8 l || (has_blank_translation 10 l || has_blank_translation 11 l)

-- both by the fields of the alert
abbrev pub has_blank_in : ℕ → List WireField → Bool
has_blank_in n l = holds (n ∷ []) (is_payload_without 1 1) l

abbrev pub is_blank : List WireField → Bool
is_blank l = has_blank_in 8 l || (has_blank_in 10 l || has_blank_in 11 l)

-- what was found in an entity is what is there
pub record AreHeld (found : HeldSlots) (l : List WireField) : Type 0 where
  pub id : found.id ≡ is_there [] 1 l
  pub update : found.update ≡ is_there [] 3 l
  pub trip : found.trip ≡ is_there (3 ∷ []) 1 l
  pub position : found.position.given ≡ is_there (4 ∷ []) 2 l
  pub latitude : found.position.latitude ≡ has_coordinate 1 l
  pub longitude : found.position.longitude ≡ has_coordinate 2 l
  pub blank_text : found.blank_text ≡ lacks_text l

-- Whether an entity of these fields lacks a required slot: its id; the trip of its trip update, slot 3; a coordinate of the position,
-- slot 2, of its vehicle position, slot 4; the text of a translation in a translated text of its alert, slot 5.
abbrev pub lacks : List WireField → Required → Bool
lacks l Id = not (is_there [] 1 l)
lacks l Trip = is_there [] 3 l && not (is_there (3 ∷ []) 1 l)
lacks l Latitude = is_there (4 ∷ []) 2 l && not (has_coordinate 1 l)
lacks l Longitude = is_there (4 ∷ []) 2 l && not (has_coordinate 2 l)
lacks l Text = lacks_text l
lacks l Header = false
lacks l Version = false

-- What is missing is the first slot in this order that the entity lacks.
abbrev pub MissingIsFirst : Type 0
MissingIsFirst = (l : List WireField) → missing entity l ≡ find (lacks l) required_order
