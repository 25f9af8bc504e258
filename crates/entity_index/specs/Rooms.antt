-- Feeds with what is held of them, each at the place of its number.
use Rattle.std.specs.Prelude.{◌≡◌, ℕ, Bool, List, map, Option, Some, None, get_or, IfSome}
use Rattle.entity_index.specs.Held.{HeldEntities, nothing}
use Rattle.entity_index.specs.Seats.{Seats, parts_in}

-- the last snapshot of a feed, with its entities as they are held
pub record HeldRoom : Type 0 where
  pub feed : ℕ
  pub bytes : List ℕ
  pub phase : Bool
  pub seats : Seats

-- what is held of a feed, if anything
abbrev pub in_room : Option HeldRoom → HeldEntities
in_room None = nothing
in_room (Some room) = record { bytes = Some room.bytes; parts = parts_in room.seats }

abbrev pub in_rooms : List (Option HeldRoom) → List HeldEntities
in_rooms rooms = map in_room rooms

-- each is at the place of its number
abbrev pub AreAtPlaces : List (Option HeldRoom) → Type 0
AreAtPlaces rooms = (f : ℕ) → IfSome (get_or rooms f None) (λ room. room.feed ≡ f)

-- the room of a feed
abbrev pub room_of : List (Option HeldRoom) → ℕ → Option HeldRoom
room_of rooms f = get_or rooms f None
