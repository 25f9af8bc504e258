-- Stop time updates that break no rule within their message, each by itself and after the one before it. (GTFS Realtime Reference
-- 2.0, "StopTimeUpdate", "StopTimeEvent"; what being sound is, is this profile's.)
use Rattle.std.specs.Prelude.{◌≡◌, ◌<◌, ◌-◌, ℕ, zero, suc, pos, int_le, Bool, true, false, not, ◌&&◌, ◌||◌, List, map, Option, Some, slice_get}
use Rattle.feed_values.specs.Schema.{Value}
use Rattle.feed_values.specs.Messages.{entity, trip_update, stop_time_update}
use Rattle.feed_values.specs.Meaning.{option_case}
use Rattle.feed_values.specs.Views.{natural, stop_time_update_value}
use Rattle.feed_values.specs.declared.stop_time_event.StopTimeEvent.{StopTimeEvent}
use Rattle.feed_values.specs.declared.stop_time_update.StopTimeUpdate.{StopTimeUpdate}
use Rattle.feed_values.specs.Cells.{entity_cell, number_cell, text_cell}
use Rattle.feed_values.specs.declared.slot.Slot.TheVariants.{S32, S33, S34, S35, S36, S37, S38, S39, S40}
use Rattle.feed_values.specs.declared.cell_value.CellValue.{CellValue}
use Rattle.feed_values.specs.declared.cell_value.CellValue.TheVariants.{Missing, Number}
use Rattle.rule_table.specs.Asked.{number_in}
use Rattle.rule_table.specs.Judged.{update_of}
use Rattle.rule_table.specs.Passed.{given_or, is_given, is_number, number_is, numbers_are, same_cell}

-- these are the stop time updates of an entity's trip update
pub record AreUpdates (e : Value entity) (stops : List StopTimeUpdate) : Type 0 where
  pub update : Value trip_update
  pub held : update_of e ≡ Some update
  pub list : update.1.0 ≡ map stop_time_update_value stops

-- this is the one at an index
pub record IsUpdateAt (e : Value entity) (i : ℕ) (v : Value stop_time_update) : Type 0 where
  pub update : Value trip_update
  pub held : update_of e ≡ Some update
  pub item : slice_get update.1.0 i ≡ Some v

-- the cells of a stop time update
pub record StopCells : Type 0 where
  pub sequence : CellValue
  pub id : CellValue
  pub relationship : CellValue
  pub arrival : CellValue
  pub arrival_delay : CellValue
  pub arrival_time : CellValue
  pub departure : CellValue
  pub departure_delay : CellValue
  pub departure_time : CellValue

-- those of the one at an index of an entity
abbrev pub cells_at : Value entity → ℕ → StopCells
cells_at e i = record {
  sequence = entity_cell e S32 i;
  id = entity_cell e S33 i;
  relationship = entity_cell e S34 i;
  arrival = entity_cell e S35 i;
  arrival_delay = entity_cell e S36 i;
  arrival_time = entity_cell e S37 i;
  departure = entity_cell e S38 i;
  departure_delay = entity_cell e S39 i;
  departure_time = entity_cell e S40 i;
}

-- those of one by its fields
abbrev pub event_in : Option StopTimeEvent → CellValue
event_in event = option_case event Missing (λ _. Number (pos 1))

abbrev pub delay_in : Option StopTimeEvent → CellValue
delay_in event = option_case event Missing (λ held. number_cell held.delay)

abbrev pub time_in : Option StopTimeEvent → CellValue
time_in event = option_case event Missing (λ held. number_cell held.time)

abbrev pub cells_in : StopTimeUpdate → StopCells
cells_in stop = record {
  sequence = number_cell (natural stop.stop_sequence);
  id = text_cell stop.stop_id;
  relationship = number_cell (natural stop.schedule_relationship);
  arrival = event_in stop.arrival;
  arrival_delay = delay_in stop.arrival;
  arrival_time = time_in stop.arrival;
  departure = event_in stop.departure;
  departure_delay = delay_in stop.departure;
  departure_time = time_in stop.departure;
}

-- a number that isn't a time from 2005 on, of 32 bits
abbrev pub no_time : CellValue → Bool
no_time v = number_is (λ x. not (int_le (pos 1104537600) x && int_le x (pos 4294967295))) (number_in v)

-- both are numbers, and the first is at most the second, or below it
abbrev pub at_most : CellValue → CellValue → Bool
at_most v w = numbers_are (λ x y. int_le y x) (number_in w) (number_in v)

abbrev pub below : CellValue → CellValue → Bool
below v w = numbers_are (λ x y. not (int_le y x)) (number_in v) (number_in w)

-- both are given, and they are one
abbrev pub equal : CellValue → CellValue → Bool
equal v w = is_given v && same_cell v w

-- an event that is given has a delay or a time
abbrev pub is_timed : CellValue → CellValue → CellValue → Bool
is_timed event delay time = not (is_given event) || (is_given delay || is_given time)

-- an update by itself: where it stands is given; it has an event, unless it is skipped (1) or without data (2), and has none
-- where it is without data; events have times; the departure isn't before the arrival
pub record StandsAlone (stop : StopCells) : Type 0 where
  pub named : (is_given stop.sequence || is_given stop.id) ≡ true
  pub told : (is_number 1 stop.relationship || (is_number 2 stop.relationship || (is_given stop.arrival || is_given stop.departure))) ≡ true
  pub no_arrival : (is_number 2 stop.relationship && is_given stop.arrival) ≡ false
  pub no_departure : (is_number 2 stop.relationship && is_given stop.departure) ≡ false
  pub arrives : is_timed stop.arrival stop.arrival_delay stop.arrival_time ≡ true
  pub departs : is_timed stop.departure stop.departure_delay stop.departure_time ≡ true
  pub arrival_time : no_time stop.arrival_time ≡ false
  pub departure_time : no_time stop.departure_time ≡ false
  pub in_order : below stop.departure_time stop.arrival_time ≡ false

-- an update after another: its stop_sequence is above that one's, its stop_id is another, and its first time is after that
-- one's last
pub record ComesAfter (before stop : StopCells) : Type 0 where
  pub rises : at_most stop.sequence before.sequence ≡ false
  pub differs : equal before.sequence stop.sequence ≡ false
  pub moves : equal before.id stop.id ≡ false
  pub later : at_most (given_or stop.departure_time stop.arrival_time) (given_or before.arrival_time before.departure_time) ≡ false

-- the update at an index by itself
abbrev pub IsSound : Value entity → ℕ → Type 0
IsSound e i = StandsAlone (cells_at e i)

-- and after the one before it, where it isn't the first
abbrev pub Follows : Value entity → ℕ → Type 0
Follows e i = 0 < i → ComesAfter (cells_at e (i - 1)) (cells_at e i)

-- each one below an index is sound
abbrev pub SoundBelow : Value entity → ℕ → Type 0
SoundBelow e zero = Unit {0}
SoundBelow e (suc i) = SoundBelow e i × (Follows e i × IsSound e i)
