-- Vehicle positions at which no rule breaks, where no timetable is asked: by their own fields, the header's timestamp, the moment and the pairing rows.
-- (GTFS Realtime Reference 2.0, "VehiclePosition", "TripDescriptor", "VehicleDescriptor"; the rules are this profile's.)
use Rattle.std.specs.Prelude.{◌≡◌, ◌+ℤ◌, ℕ, pos, int_le, Bool, true, false, not, ◌&&◌, ◌||◌, List, Option, Some, None, is_some}
use Rattle.feed_values.specs.Schema.{Value}
use Rattle.feed_values.specs.Messages.{entity, feed_header}
use Rattle.feed_values.specs.Meaning.{option_case}
use Rattle.feed_values.specs.Cells.{entity_cell, header_cell, number_cell, text_cell}
use Rattle.feed_values.specs.SlotNames.{entity_is_deleted, header_timestamp}
use Rattle.feed_values.specs.Views.{natural, vehicle_position_value}
use Rattle.feed_values.specs.declared.cell_value.CellValue.{CellValue}
use Rattle.feed_values.specs.declared.cell_value.CellValue.TheVariants.{Missing, Number, Text}
use Rattle.feed_values.specs.declared.slot.Slot.TheVariants.{S50, S51, S52, S53, S54, S55, S58, S59}
use Rattle.feed_values.specs.declared.trip_descriptor.TripDescriptor.{TripDescriptor}
use Rattle.feed_values.specs.declared.vehicle_position.VehiclePosition.{VehiclePosition}
use Rattle.rt_day.specs.Date.{date_of}
use Rattle.rule_table.specs.declared.key.EntityKey.{EntityKey}
use Rattle.rule_table.specs.declared.kind.Kind.TheVariants as kind
use Rattle.rule_table.specs.Asked.{number_in, text_in}
use Rattle.rule_table.specs.Judged.{alert_of, update_of}
use Rattle.rule_table.specs.Pairs.{PairRow, any_row, first_key, has_pair, vehicle_of}
use Rattle.rule_table.specs.Passed.{is_clock, is_given, number_is, text_is}
use Rattle.rule_clear.specs.Sound.{below, no_time}

-- the cells of a vehicle position that rules ask for
pub record VehicleCells : Type 0 where
  pub vehicle : CellValue
  pub trip : CellValue
  pub trip_id : CellValue
  pub start_time : CellValue
  pub start_date : CellValue
  pub relationship : CellValue
  pub id : CellValue
  pub timestamp : CellValue

-- those of an entity's
abbrev pub cells_of : Value entity → VehicleCells
cells_of e = record {
  vehicle = entity_cell e S50 0;
  trip = entity_cell e S51 0;
  trip_id = entity_cell e S52 0;
  start_time = entity_cell e S53 0;
  start_date = entity_cell e S54 0;
  relationship = entity_cell e S55 0;
  id = entity_cell e S58 0;
  timestamp = entity_cell e S59 0;
}

-- those of one by its fields
abbrev pub of_trip : (TripDescriptor → CellValue) → VehiclePosition → CellValue
of_trip field v = option_case v.trip Missing field

abbrev pub trip_id_in : VehiclePosition → CellValue
trip_id_in v = of_trip (λ trip. text_cell trip.trip_id) v

abbrev pub cells_in : VehiclePosition → VehicleCells
cells_in v = record {
  vehicle = Number (pos 1);
  trip = of_trip (λ trip. Number (pos 1)) v;
  trip_id = trip_id_in v;
  start_time = of_trip (λ trip. text_cell trip.start_time) v;
  start_date = of_trip (λ trip. text_cell trip.start_date) v;
  relationship = of_trip (λ trip. number_cell (natural trip.schedule_relationship)) v;
  id = option_case v.vehicle Missing (λ vehicle. text_cell vehicle.id);
  timestamp = number_cell (natural v.timestamp);
}

-- above the moment by more than 60 seconds
abbrev pub is_ahead : CellValue → ℕ → Bool
is_ahead v moment = number_is (λ x. not (int_le x (pos moment +ℤ pos 60))) (number_in v)

-- given, and not written as a time or a date is
abbrev pub is_wrong_clock : CellValue → Bool
is_wrong_clock v = is_given v && not (text_is is_clock (text_in v))

abbrev pub is_wrong_date : CellValue → Bool
is_wrong_date v = is_given v && not (text_is (λ t. is_some (date_of t)) (text_in v))

-- Its timestamp is given and is a time from 2005 on, and is neither above the header's nor above the moment by more than 60 seconds.
pub record IsTimely (header : CellValue) (moment : ℕ) (c : VehicleCells) : Type 0 where
  pub given : is_given c.timestamp ≡ true
  pub valid : no_time c.timestamp ≡ false
  pub behind : below header c.timestamp ≡ false
  pub come : is_ahead c.timestamp moment ≡ false

-- Its trip, where it has one, gives its schedule_relationship, and a start_time and a start_date that are written as times and dates are.
pub record IsDescribed (c : VehicleCells) : Type 0 where
  pub related : (is_given c.trip && not (is_given c.relationship)) ≡ false
  pub clock : is_wrong_clock c.start_time ≡ false
  pub date : is_wrong_date c.start_date ≡ false

-- there is no trip update, or one that gives both the trip and the vehicle
abbrev pub is_paired : List PairRow → Option (List ℕ) → List ℕ → Bool
is_paired rows trip vehicle = not (any_row rows kind.TripUpdate) || option_case trip false (λ id. has_pair rows kind.TripUpdate id vehicle)

-- Its vehicle has an id, its entity is the first of the feed that gives it, and where there are trip updates one of them gives its trip and its vehicle.
pub record IsKnown (rows : List PairRow) (key : EntityKey) (c : VehicleCells) : Type 0 where
  pub id : List ℕ
  pub named : c.id ≡ Text id
  pub first : first_key rows key.feed id ≡ Some key
  pub paired : is_paired rows (text_in c.trip_id) id ≡ true

-- The vehicle position stands alone in an entity that is the first of its id.
pub record IsAlone (key : EntityKey) (e : Value entity) (v : VehiclePosition) : Type 0 where
  pub no_update : update_of e ≡ None
  pub no_alert : alert_of e ≡ None
  pub kept : entity_cell e entity_is_deleted 0 ≡ Missing
  pub held : vehicle_of e ≡ Some (vehicle_position_value v)
  pub once : key.occurrence ≡ 0

-- an entity of such a vehicle position, and of nothing else
pub record IsQuiet (rows : List PairRow) (header : Value feed_header) (moment : ℕ) (key : EntityKey) (e : Value entity) : Type 0 where
  pub vehicle : VehiclePosition
  pub alone : IsAlone key e vehicle
  pub timely : IsTimely (header_cell header header_timestamp) moment (cells_in vehicle)
  pub described : IsDescribed (cells_in vehicle)
  pub known : IsKnown rows key (cells_in vehicle)
