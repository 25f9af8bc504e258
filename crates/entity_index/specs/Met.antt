-- Which of the entities that are held were met, by place.
use Rattle.std.specs.Prelude.{Bool, true, List, Option, Some, None, slice_set}
use Rattle.entity_index.specs.Seats.{HeldSeat}

-- one more was met, if it is held
abbrev pub met_with : Option HeldSeat → List Bool → List Bool
met_with None met = met
met_with (Some seat) met = slice_set met seat.place true
