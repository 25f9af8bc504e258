-- Stop time updates that keep to the timetable, and so break none of its rules. (GTFS Realtime Reference 2.0, "StopTimeUpdate",
-- "StopTimeEvent"; GTFS Schedule Reference, "stops.txt", "stop_times.txt"; what keeping is, is this profile's.)
use Rattle.std.specs.Prelude.{◌≡◌, ℕ, zero, suc, Bool, true, false, not, ◌&&◌, ◌||◌, List, Option, Some, option_map, is_some, slice_get}
use Rattle.std.specs.FinMap.{get}
use Rattle.feed_values.specs.Schema.{Value}
use Rattle.feed_values.specs.Messages.{entity}
use Rattle.feed_values.specs.Cells.{entity_cell}
use Rattle.feed_values.specs.declared.slot.Slot.TheVariants.{S21, S32, S33, S36, S37, S39, S40}
use Rattle.feed_values.specs.declared.cell_value.CellValue.{CellValue}
use Rattle.feed_values.specs.declared.cell_value.CellValue.TheVariants as value
use Rattle.timetable.specs.Stops.{stop_time_at}
use Rattle.timetable.specs.Timetables.{Tables}
use Rattle.timetable.specs.declared.StopTime.{StopTime}
use Rattle.rule_history.specs.Answered.{trip_known}
use Rattle.rule_table.specs.Asked.{number_in, sequence_of, text_in}
use Rattle.rule_table.specs.Passed.{is_given, same_cell}

-- the location_type of a stop
abbrev pub kind_of : Tables → List ℕ → Option ℕ
kind_of t stop = option_map (λ only. only.item.kind) (get t.stops stop)

-- a stop_id that is given is that of a stop at which vehicles halt
abbrev pub IsHalt : Tables → CellValue → Type 0
IsHalt t v = (stop : List ℕ) → v ≡ value.Text stop → kind_of t stop ≡ Some 0

-- whether both are given, and they aren't one
abbrev pub differ : CellValue → CellValue → Bool
differ v w = is_given v && is_given w && not (same_cell v w)

-- whether an event has a time: the scheduled one, or its own beside a delay
abbrev pub has_time : Option ℕ → CellValue → CellValue → Bool
has_time scheduled delay time = is_some scheduled || (not (is_given delay) || is_given time)

-- the update at an index keeps to a stop time: it stops where that does, or gives no stop_id, and its events have times
pub record KeepsTime (t : Tables) (e : Value entity) (i : ℕ) (time : StopTime) : Type 0 where
  pub placed : is_some (slice_get t.stop_times.stops time.stop) ≡ true
  pub same : (stop : List ℕ) → slice_get t.stop_times.stops time.stop ≡ Some stop → differ (entity_cell e S33 i) (value.Text stop) ≡ false
  pub arrives : has_time time.arrival (entity_cell e S36 i) (entity_cell e S37 i) ≡ true
  pub departs : has_time time.departure (entity_cell e S39 i) (entity_cell e S40 i) ≡ true

-- it keeps to the stop time of a trip at a stop_sequence, which the trip has
pub record KeepsTrip (t : Tables) (e : Value entity) (i : ℕ) (trip : List ℕ) (n : ℕ) : Type 0 where
  pub time : StopTime
  pub at : stop_time_at t.stop_times.times trip n ≡ Some time
  pub keeps : KeepsTime t e i time

-- it keeps to the timetable: its stop is one, and where its trip is known and it gives a stop_sequence, it keeps to the trip's
-- stop time there
pub record Keeps (t : Tables) (e : Value entity) (i : ℕ) : Type 0 where
  pub stop : IsHalt t (entity_cell e S33 i)
  pub time : (trip : List ℕ) (n : ℕ) → text_in (entity_cell e S21 0) ≡ Some trip → sequence_of (number_in (entity_cell e S32 i)) ≡ Some n → trip_known t trip ≡ true → KeepsTrip t e i trip n

-- each one below an index does
abbrev pub KeepBelow : Tables → Value entity → ℕ → Type 0
KeepBelow t e zero = Unit {0}
KeepBelow t e (suc i) = KeepBelow t e i × Keeps t e i
