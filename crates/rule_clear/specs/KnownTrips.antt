-- The trip of an entity's trip update, with its stop times.
use Rattle.std.specs.Prelude.{◌≡◌, ℕ, false, List, Option, Some, None, IfSome, option_copied}
use Rattle.std.specs.FinMap.{get}
use Rattle.feed_values.specs.Schema.{Value}
use Rattle.feed_values.specs.Messages.{entity}
use Rattle.feed_values.specs.Cells.{entity_cell}
use Rattle.feed_values.specs.declared.slot.Slot.TheVariants.{S21}
use Rattle.timetable.specs.Lookups.{IsStop, tables_in}
use Rattle.timetable.specs.Timetables.{Tables}
use Rattle.timetable.specs.declared.timetable.Timetable.{Timetable}
use Rattle.rule_clear.specs.declared.known_trip.KnownTrip.{KnownTrip}
use Rattle.rule_history.specs.Answered.{trip_known}
use Rattle.rule_table.specs.Asked.{text_in}

-- these are the stop times of the trip with an id
abbrev pub IsTripWith : Tables → KnownTrip → List ℕ → Type 0
IsTripWith t trip id = option_copied trip.times ≡ get t.stop_times.times id

-- each of its stop times has a stop of the timetable
abbrev pub HasStops : Timetable → KnownTrip → Type 0
HasStops table trip = IfSome trip.times (λ times. (n : ℕ) → IfSome (get times.now n) (λ time. IsStop table time.stop))

-- it is the trip that an entity's trip update gives; without one, that trip isn't known
abbrev pub IsTripAt : Timetable → Value entity → Option KnownTrip → Type 0
IsTripAt table e None = (id : List ℕ) → text_in (entity_cell e S21 0) ≡ Some id → trip_known (tables_in table) id ≡ false
IsTripAt table e (Some trip) = HasStops table trip × ((id : List ℕ) → text_in (entity_cell e S21 0) ≡ Some id → IsTripWith (tables_in table) trip id)
