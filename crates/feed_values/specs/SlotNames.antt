-- The slots by name, as `Slot` has them: the message that a field is in, and the field. A field of an item is named without
-- its list.
use Rattle.std.specs.Prelude.{List, [], ◌∷◌}
use Rattle.feed_values.specs.declared.slot.Slot.{Slot}
use Rattle.feed_values.specs.declared.slot.Slot.TheVariants.{S1, S2, S3, S4, S10, S11, S20, S21, S22, S23, S24, S25, S26, S27, S28, S29, S30, S31, S32, S33, S34, S35, S36, S37, S38, S39, S40, S41, S42, S43, S44, S50, S51, S52, S53, S54, S55, S56, S57, S58, S59, S60, S70, S71, S72, S73, S74, S75, S76, S77, S78, S79, S80, S81, S82, S83, S84, S85}

-- all slots, by rising number
abbrev pub all_slots : List Slot
all_slots = S1 ∷ S2 ∷ S3 ∷ S4 ∷ S10 ∷ S11 ∷ S20 ∷ S21 ∷ S22 ∷ S23 ∷ S24 ∷ S25 ∷ S26 ∷ S27 ∷ S28 ∷ S29 ∷ S30 ∷ S31 ∷ S32 ∷ S33 ∷ S34 ∷ S35 ∷ S36 ∷ S37 ∷ S38 ∷ S39 ∷ S40 ∷ S41 ∷ S42 ∷ S43 ∷ S44 ∷ S50 ∷ S51 ∷ S52 ∷ S53 ∷ S54 ∷ S55 ∷ S56 ∷ S57 ∷ S58 ∷ S59 ∷ S60 ∷ S70 ∷ S71 ∷ S72 ∷ S73 ∷ S74 ∷ S75 ∷ S76 ∷ S77 ∷ S78 ∷ S79 ∷ S80 ∷ S81 ∷ S82 ∷ S83 ∷ S84 ∷ S85 ∷ []

-- ---- a header
-- header.gtfs_realtime_version
abbrev pub header_version : Slot
header_version = S1

-- header.incrementality
abbrev pub header_incrementality : Slot
header_incrementality = S2

-- header.timestamp
abbrev pub header_timestamp : Slot
header_timestamp = S3

-- header.feed_version
abbrev pub header_feed_version : Slot
header_feed_version = S4

-- ---- each entity
-- id
abbrev pub entity_id : Slot
entity_id = S10

-- is_deleted
abbrev pub entity_is_deleted : Slot
entity_is_deleted = S11

-- ---- a trip update
-- trip_update
abbrev pub update : Slot
update = S20

-- trip_update.trip.trip_id
abbrev pub update_trip_id : Slot
update_trip_id = S21

-- trip_update.trip.start_time
abbrev pub update_start_time : Slot
update_start_time = S22

-- trip_update.trip.start_date
abbrev pub update_start_date : Slot
update_start_date = S23

-- trip_update.trip.schedule_relationship
abbrev pub update_trip_relationship : Slot
update_trip_relationship = S24

-- trip_update.trip.route_id
abbrev pub update_route_id : Slot
update_route_id = S25

-- trip_update.trip.direction_id
abbrev pub update_direction_id : Slot
update_direction_id = S26

-- trip_update.stop_time_update
abbrev pub update_stops : Slot
update_stops = S27

-- trip_update.vehicle.id
abbrev pub update_vehicle_id : Slot
update_vehicle_id = S28

-- trip_update.timestamp
abbrev pub update_timestamp : Slot
update_timestamp = S29

-- trip_update.delay
abbrev pub update_delay : Slot
update_delay = S30

-- ---- its stop time updates, by item
-- trip_update.stop_time_update[i]
abbrev pub update_stop : Slot
update_stop = S31

-- trip_update.stop_time_update[i].stop_sequence
abbrev pub update_stop_sequence : Slot
update_stop_sequence = S32

-- trip_update.stop_time_update[i].stop_id
abbrev pub update_stop_id : Slot
update_stop_id = S33

-- trip_update.stop_time_update[i].schedule_relationship
abbrev pub update_stop_relationship : Slot
update_stop_relationship = S34

-- trip_update.stop_time_update[i].arrival
abbrev pub update_arrival : Slot
update_arrival = S35

-- trip_update.stop_time_update[i].arrival.delay
abbrev pub update_arrival_delay : Slot
update_arrival_delay = S36

-- trip_update.stop_time_update[i].arrival.time
abbrev pub update_arrival_time : Slot
update_arrival_time = S37

-- trip_update.stop_time_update[i].departure
abbrev pub update_departure : Slot
update_departure = S38

-- trip_update.stop_time_update[i].departure.delay
abbrev pub update_departure_delay : Slot
update_departure_delay = S39

-- trip_update.stop_time_update[i].departure.time
abbrev pub update_departure_time : Slot
update_departure_time = S40

-- trip_update.stop_time_update[i].stop_time_properties.assigned_stop_id
abbrev pub update_assigned_stop_id : Slot
update_assigned_stop_id = S41

-- ---- what it says of its trip anew
-- trip_update.trip_properties.trip_id
abbrev pub update_properties_trip_id : Slot
update_properties_trip_id = S42

-- trip_update.trip_properties.start_date
abbrev pub update_properties_start_date : Slot
update_properties_start_date = S43

-- trip_update.trip_properties.start_time
abbrev pub update_properties_start_time : Slot
update_properties_start_time = S44

-- ---- a vehicle position
-- vehicle
abbrev pub vehicle : Slot
vehicle = S50

-- vehicle.trip
abbrev pub vehicle_trip : Slot
vehicle_trip = S51

-- vehicle.trip.trip_id
abbrev pub vehicle_trip_id : Slot
vehicle_trip_id = S52

-- vehicle.trip.start_time
abbrev pub vehicle_start_time : Slot
vehicle_start_time = S53

-- vehicle.trip.start_date
abbrev pub vehicle_start_date : Slot
vehicle_start_date = S54

-- vehicle.trip.schedule_relationship
abbrev pub vehicle_trip_relationship : Slot
vehicle_trip_relationship = S55

-- vehicle.trip.route_id
abbrev pub vehicle_route_id : Slot
vehicle_route_id = S56

-- vehicle.trip.direction_id
abbrev pub vehicle_direction_id : Slot
vehicle_direction_id = S57

-- vehicle.vehicle.id
abbrev pub vehicle_id : Slot
vehicle_id = S58

-- vehicle.timestamp
abbrev pub vehicle_timestamp : Slot
vehicle_timestamp = S59

-- vehicle.stop_id
abbrev pub vehicle_stop_id : Slot
vehicle_stop_id = S60

-- ---- an alert
-- alert
abbrev pub alert : Slot
alert = S70

-- ---- its active periods, by item
-- alert.active_period[i].start
abbrev pub alert_start : Slot
alert_start = S71

-- alert.active_period[i].end
abbrev pub alert_end : Slot
alert_end = S72

-- ---- the entities that it informs of, as a list and by item
-- alert.informed_entity
abbrev pub alert_selectors : Slot
alert_selectors = S73

-- alert.informed_entity[i]
abbrev pub alert_selector : Slot
alert_selector = S74

-- alert.informed_entity[i].agency_id
abbrev pub alert_agency_id : Slot
alert_agency_id = S75

-- alert.informed_entity[i].route_id
abbrev pub alert_route_id : Slot
alert_route_id = S76

-- alert.informed_entity[i].route_type
abbrev pub alert_route_type : Slot
alert_route_type = S77

-- alert.informed_entity[i].trip
abbrev pub alert_trip : Slot
alert_trip = S78

-- alert.informed_entity[i].trip.trip_id
abbrev pub alert_trip_id : Slot
alert_trip_id = S79

-- alert.informed_entity[i].trip.start_time
abbrev pub alert_start_time : Slot
alert_start_time = S80

-- alert.informed_entity[i].trip.start_date
abbrev pub alert_start_date : Slot
alert_start_date = S81

-- alert.informed_entity[i].trip.schedule_relationship
abbrev pub alert_trip_relationship : Slot
alert_trip_relationship = S82

-- alert.informed_entity[i].trip.route_id
abbrev pub alert_trip_route_id : Slot
alert_trip_route_id = S83

-- alert.informed_entity[i].trip.direction_id
abbrev pub alert_direction_id : Slot
alert_direction_id = S84

-- alert.informed_entity[i].stop_id
abbrev pub alert_stop_id : Slot
alert_stop_id = S85
