-- Slots at which some rules are known to break nowhere.
use Rattle.std.specs.Prelude.{Bool, true, false, List, [], ◌∷◌, ◌++◌, Option}
use Rattle.feed_values.specs.Schema.{Value}
use Rattle.feed_values.specs.Messages.{entity}
use Rattle.feed_values.specs.declared.slot.Slot.{Slot}
use Rattle.feed_values.specs.SlotNames.{update_trip_id, update_start_time, update_start_date, update_trip_relationship, update_route_id, update_direction_id, update_stops, update_vehicle_id, update_timestamp, update_stop, update_stop_sequence, update_stop_id, update_stop_relationship, update_arrival, update_arrival_time, update_departure, update_departure_time, update_assigned_stop_id, update_properties_start_date, update_properties_start_time, vehicle_trip_id, vehicle_start_time, vehicle_start_date, vehicle_trip_relationship, vehicle_route_id, vehicle_direction_id, vehicle_id, vehicle_timestamp, vehicle_stop_id}
use Rattle.feed_values.specs.declared.cell_value.CellValue.{CellValue}
use Rattle.rule_table.specs.declared.ask.Ask.{Ask}
use Rattle.rule_table.specs.declared.key.EntityKey.{EntityKey}
use Rattle.rule_table.specs.declared.rule.RuleId.{RuleId}
use Rattle.rule_table.specs.declared.rule.RuleId.TheVariants.{E001, E002, E003, E004, E006, E009, E011, E012, E013, E015, E016, E019, E020, E021, E022, E023, E024, E025, E035, E036, E037, E040, E041, E042, E043, E044, E045, E046, E047, E050, E051, E052, W001, W002, W003, W005, W006, W009, X001}
use Rattle.rule_clear.specs.declared.clear.Clear.{Clear}
use Rattle.rule_clear.specs.declared.clear.Settling.{Settling}
use Rattle.rule_clear.specs.declared.clear.Settling.TheVariants.{Soundness, Relationships, Timetable, Sequences, Assignments, NoTripUpdate, NoVehicle, Nothing}
use Rattle.rule_table.specs.ClearSlots.{AllClear, IsAmong}

-- the rules and slots that are clear where each stop time update is sound, and where each keeps to the timetable
abbrev pub where_sound : List (RuleId × Slot)
where_sound = (E001, update_arrival_time) ∷ (E001, update_departure_time) ∷ (E002, update_stop_sequence) ∷ (E022, update_stop) ∷ (E025, update_departure_time) ∷ (E036, update_stop_sequence) ∷ (E037, update_stop_id) ∷ (E040, update_stop)
    ∷ (E042, update_arrival) ∷ (E042, update_departure) ∷ (E043, update_stop) ∷ (E044, update_arrival) ∷ (E044, update_departure) ∷ []

abbrev pub where_kept : List (RuleId × Slot)
where_kept = (E011, update_stop_id) ∷ (E015, update_stop_id) ∷ (E045, update_stop_id) ∷ (E046, update_arrival) ∷ (E046, update_departure) ∷ (E051, update_stop_sequence) ∷ []

-- and where each gives its schedule_relationship, or its stop_sequence
abbrev pub where_related : List (RuleId × Slot)
where_related = (W009, update_stop_relationship) ∷ []

abbrev pub where_sequenced : List (RuleId × Slot)
where_sequenced = (E009, update_stop_sequence) ∷ []

-- and where none assigns another stop
abbrev pub where_unassigned : List (RuleId × Slot)
where_unassigned = (E011, update_assigned_stop_id) ∷ (E015, update_assigned_stop_id) ∷ []

-- and where the entity has no trip update, or no vehicle position: those at the fields of that message
abbrev pub without_update : List (RuleId × Slot)
without_update = (E001, update_timestamp) ∷ (E003, update_trip_id) ∷ (E004, update_route_id) ∷ (E006, update_trip_id) ∷ (E012, update_timestamp) ∷ (E013, update_trip_relationship) ∷ (E016, update_trip_id) ∷ (E019, update_start_time) ∷ (E020, update_start_time) ∷ (E020, update_properties_start_time) ∷ (E021, update_start_date) ∷ (E021, update_properties_start_date) ∷ (E023, update_start_time)
    ∷ (E024, update_direction_id) ∷ (E035, update_route_id) ∷ (E041, update_stops) ∷ (E047, update_vehicle_id) ∷ (E050, update_timestamp) ∷ (W001, update_timestamp) ∷ (W002, update_vehicle_id) ∷ (W003, update_trip_id) ∷ (W003, update_vehicle_id) ∷ (W005, update_vehicle_id) ∷ (W006, update_trip_id) ∷ (W009, update_trip_relationship) ∷ []

abbrev pub without_vehicle : List (RuleId × Slot)
without_vehicle = (E001, vehicle_timestamp) ∷ (E003, vehicle_trip_id) ∷ (E004, vehicle_route_id) ∷ (E006, vehicle_trip_id) ∷ (E011, vehicle_stop_id) ∷ (E012, vehicle_timestamp) ∷ (E013, vehicle_trip_relationship) ∷ (E015, vehicle_stop_id) ∷ (E016, vehicle_trip_id) ∷ (E019, vehicle_start_time) ∷ (E020, vehicle_start_time) ∷ (E021, vehicle_start_date)
    ∷ (E023, vehicle_start_time) ∷ (E024, vehicle_direction_id) ∷ (E035, vehicle_route_id) ∷ (E047, vehicle_id) ∷ (E050, vehicle_timestamp) ∷ (E052, vehicle_id) ∷ (W001, vehicle_timestamp) ∷ (W002, vehicle_id) ∷ (W003, vehicle_trip_id) ∷ (W003, vehicle_id) ∷ (W009, vehicle_trip_relationship) ∷ (X001, vehicle_timestamp) ∷ []

abbrev pub when : {A : Type 0} → Bool → List A → List A
when true l = l
when false l = []

-- those that are clear by what was shown
abbrev pub cleared : Clear → List (RuleId × Slot)
cleared c = when c.sound where_sound ++ (when c.related where_related ++ (when c.kept where_kept ++ (when c.sequenced where_sequenced
    ++ (when c.unassigned where_unassigned ++ (when c.without_update without_update ++ when c.without_vehicle without_vehicle)))))

-- a rule and a slot are among those that this settles
abbrev pub IsSettledBy : Settling → RuleId × Slot → Type 0
IsSettledBy Soundness p = IsAmong p where_sound
IsSettledBy Relationships p = IsAmong p where_related
IsSettledBy Timetable p = IsAmong p where_kept
IsSettledBy Sequences p = IsAmong p where_sequenced
IsSettledBy Assignments p = IsAmong p where_unassigned
IsSettledBy NoTripUpdate p = IsAmong p without_update
IsSettledBy NoVehicle p = IsAmong p without_vehicle
IsSettledBy Nothing p = Unit {0}

-- what is shown to be clear has no findings
abbrev pub AreClear : (Ask → Option CellValue) → EntityKey → Value entity → Clear → Type 0
AreClear answer key e c = AllClear answer key e (cleared c)
