-- Structs that hold the same values are the same.
use Rattle.std.specs.Prelude.{◌≡◌, ℕ, ℤ, pos, Bool, true, false, List, [], ◌∷◌, map, Option, Some, None, refl}
use Rattle.std.specs.Option.{option_map}
use Rattle.std.proofs.Common.{ap}
use Rattle.rt_wire.specs.Fields.{WireField}
use Rattle.feed_values.specs.declared.unknown.UnknownValue.{UnknownValue}
use Rattle.feed_values.specs.declared.unknown.UnknownValue.TheVariants.{Varint, Fixed64, Len, Group, Fixed32}
use Rattle.feed_values.specs.declared.unknown.Unknown.{Unknown}
use Rattle.feed_values.specs.declared.translation.Translation.{Translation}
use Rattle.feed_values.specs.declared.translated_string.TranslatedString.{TranslatedString}
use Rattle.feed_values.specs.declared.time_range.TimeRange.{TimeRange}
use Rattle.feed_values.specs.declared.trip_descriptor.TripDescriptor.{TripDescriptor}
use Rattle.feed_values.specs.declared.vehicle_descriptor.VehicleDescriptor.{VehicleDescriptor}
use Rattle.feed_values.specs.declared.entity_selector.EntitySelector.{EntitySelector}
use Rattle.feed_values.specs.declared.alert.Alert.{Alert}
use Rattle.feed_values.specs.declared.position.Position.{Position}
use Rattle.feed_values.specs.declared.vehicle_position.VehiclePosition.{VehiclePosition}
use Rattle.feed_values.specs.declared.stop_time_event.StopTimeEvent.{StopTimeEvent}
use Rattle.feed_values.specs.declared.stop_time_properties.StopTimeProperties.{StopTimeProperties}
use Rattle.feed_values.specs.declared.stop_time_update.StopTimeUpdate.{StopTimeUpdate}
use Rattle.feed_values.specs.declared.trip_properties.TripProperties.{TripProperties}
use Rattle.feed_values.specs.declared.trip_update.TripUpdate.{TripUpdate}
use Rattle.feed_values.specs.declared.entity.Entity.{Entity}
use Rattle.feed_values.specs.declared.feed_header.FeedHeader.{FeedHeader}
use Rattle.feed_values.specs.declared.feed_message.FeedMessage.{FeedMessage}
use Rattle.feed_values.specs.Views.{unknown_value, unknown_field, natural, truth_number, translation_value, translated_string_value, time_range_value, trip_descriptor_value, vehicle_descriptor_value, entity_selector_value, alert_value, position_value, vehicle_position_value, stop_time_event_value, stop_time_properties_value, stop_time_update_value, trip_properties_value, trip_update_value, entity_value, feed_header_value, feed_message_value}
use Rattle.feed_codec.specs.EncodingLaws.{IsOneToOne}

pos_one : IsOneToOne pos
pos_one x y e = cc

truth_one : IsOneToOne truth_number
truth_one true true e = refl
truth_one true false e = absurd cc
truth_one false true e = absurd cc
truth_one false false e = refl

option_one : {A B : Type 0} (f : A → B) → IsOneToOne f → IsOneToOne (option_map f)
option_one f one None None e = refl
option_one f one None (Some y) e = absurd cc
option_one f one (Some x) None e = absurd cc
option_one f one (Some x) (Some y) e = ap (λ z. Some z) (one x y cc)

list_one : {A B : Type 0} (f : A → B) → IsOneToOne f → IsOneToOne (map f)
list_one f one [] [] e = refl
list_one f one [] (y ∷ ys) e = absurd cc
list_one f one (x ∷ xs) [] e = absurd cc
list_one f one (x ∷ xs) (y ∷ ys) e =
    let h : f x ≡ f y = cc in
    let t : map f xs ≡ map f ys = cc in
    let p : x ≡ y = one x y h in
    let q : xs ≡ ys = list_one f one xs ys t in
    cc

natural_one : IsOneToOne natural
natural_one x y e = option_one pos pos_one x y e

value_one : IsOneToOne unknown_value
value_one (Varint m) (Varint n) e = cc
value_one (Varint m) (Fixed64 n) e = absurd cc
value_one (Varint m) (Len n) e = absurd cc
value_one (Varint m) (Group n) e = absurd cc
value_one (Varint m) (Fixed32 n) e = absurd cc
value_one (Fixed64 m) (Varint n) e = absurd cc
value_one (Fixed64 m) (Fixed64 n) e = cc
value_one (Fixed64 m) (Len n) e = absurd cc
value_one (Fixed64 m) (Group n) e = absurd cc
value_one (Fixed64 m) (Fixed32 n) e = absurd cc
value_one (Len m) (Varint n) e = absurd cc
value_one (Len m) (Fixed64 n) e = absurd cc
value_one (Len m) (Len n) e = cc
value_one (Len m) (Group n) e = absurd cc
value_one (Len m) (Fixed32 n) e = absurd cc
value_one (Group m) (Varint n) e = absurd cc
value_one (Group m) (Fixed64 n) e = absurd cc
value_one (Group m) (Len n) e = absurd cc
value_one (Group m) (Group n) e = cc
value_one (Group m) (Fixed32 n) e = absurd cc
value_one (Fixed32 m) (Varint n) e = absurd cc
value_one (Fixed32 m) (Fixed64 n) e = absurd cc
value_one (Fixed32 m) (Len n) e = absurd cc
value_one (Fixed32 m) (Group n) e = absurd cc
value_one (Fixed32 m) (Fixed32 n) e = cc

abbrev unknown : ℕ → UnknownValue → Unknown
unknown n v = record { number = n; value = v }

unknown_same : (m n : ℕ) (v w : UnknownValue) → m ≡ n → v ≡ w → unknown m v ≡ unknown n w
unknown_same m n v w e f = rw (e, f) refl

pub unknown_one : IsOneToOne unknown_field
unknown_one x y e = unknown_same x.number y.number x.value y.value (ap (λ (r : WireField). r.number) e) (value_one x.value y.value (ap (λ (r : WireField). r.value) e))

abbrev translation_with : List ℕ → Option (List ℕ) → List Unknown → Translation
translation_with a0 a1 a2 = record { text = a0; language = a1; unknown = a2 }

translation_same : (x y : Translation) → x.text ≡ y.text → x.language ≡ y.language → x.unknown ≡ y.unknown → translation_with x.text x.language x.unknown ≡ translation_with y.text y.language y.unknown
translation_same x y e0 e1 e2 = rw (e0, e1, e2) refl

pub translation_one : IsOneToOne translation_value
translation_one x y e = translation_same x y (ap (λ v. v.0) e) (ap (λ v. v.1.0) e) (list_one unknown_field unknown_one x.unknown y.unknown (ap (λ v. v.1.1) e))

abbrev translated_string_with : List Translation → List Unknown → TranslatedString
translated_string_with a0 a1 = record { translation = a0; unknown = a1 }

translated_string_same : (x y : TranslatedString) → x.translation ≡ y.translation → x.unknown ≡ y.unknown → translated_string_with x.translation x.unknown ≡ translated_string_with y.translation y.unknown
translated_string_same x y e0 e1 = rw (e0, e1) refl

pub translated_string_one : IsOneToOne translated_string_value
translated_string_one x y e = translated_string_same x y (list_one translation_value translation_one x.translation y.translation (ap (λ v. v.0) e)) (list_one unknown_field unknown_one x.unknown y.unknown (ap (λ v. v.1) e))

abbrev time_range_with : Option ℕ → Option ℕ → List Unknown → TimeRange
time_range_with a0 a1 a2 = record { start = a0; end = a1; unknown = a2 }

time_range_same : (x y : TimeRange) → x.start ≡ y.start → x.end ≡ y.end → x.unknown ≡ y.unknown → time_range_with x.start x.end x.unknown ≡ time_range_with y.start y.end y.unknown
time_range_same x y e0 e1 e2 = rw (e0, e1, e2) refl

pub time_range_one : IsOneToOne time_range_value
time_range_one x y e = time_range_same x y (natural_one x.start y.start (ap (λ v. v.0) e)) (natural_one x.end y.end (ap (λ v. v.1.0) e)) (list_one unknown_field unknown_one x.unknown y.unknown (ap (λ v. v.1.1) e))

abbrev trip_descriptor_with : Option (List ℕ) → Option (List ℕ) → Option (List ℕ) → Option ℕ → Option (List ℕ) → Option ℕ → List Unknown → TripDescriptor
trip_descriptor_with a0 a1 a2 a3 a4 a5 a6 = record { trip_id = a0; start_time = a1; start_date = a2; schedule_relationship = a3; route_id = a4; direction_id = a5; unknown = a6 }

trip_descriptor_same : (x y : TripDescriptor) → x.trip_id ≡ y.trip_id → x.start_time ≡ y.start_time → x.start_date ≡ y.start_date → x.schedule_relationship ≡ y.schedule_relationship → x.route_id ≡ y.route_id → x.direction_id ≡ y.direction_id → x.unknown ≡ y.unknown → trip_descriptor_with x.trip_id x.start_time x.start_date x.schedule_relationship x.route_id x.direction_id x.unknown ≡ trip_descriptor_with y.trip_id y.start_time y.start_date y.schedule_relationship y.route_id y.direction_id y.unknown
trip_descriptor_same x y e0 e1 e2 e3 e4 e5 e6 = rw (e0, e1, e2, e3, e4, e5, e6) refl

pub trip_descriptor_one : IsOneToOne trip_descriptor_value
trip_descriptor_one x y e = trip_descriptor_same x y (ap (λ v. v.0) e) (ap (λ v. v.1.0) e) (ap (λ v. v.1.1.0) e) (natural_one x.schedule_relationship y.schedule_relationship (ap (λ v. v.1.1.1.0) e)) (ap (λ v. v.1.1.1.1.0) e) (natural_one x.direction_id y.direction_id (ap (λ v. v.1.1.1.1.1.0) e)) (list_one unknown_field unknown_one x.unknown y.unknown (ap (λ v. v.1.1.1.1.1.1) e))

abbrev vehicle_descriptor_with : Option (List ℕ) → Option (List ℕ) → Option (List ℕ) → List Unknown → VehicleDescriptor
vehicle_descriptor_with a0 a1 a2 a3 = record { id = a0; label = a1; license_plate = a2; unknown = a3 }

vehicle_descriptor_same : (x y : VehicleDescriptor) → x.id ≡ y.id → x.label ≡ y.label → x.license_plate ≡ y.license_plate → x.unknown ≡ y.unknown → vehicle_descriptor_with x.id x.label x.license_plate x.unknown ≡ vehicle_descriptor_with y.id y.label y.license_plate y.unknown
vehicle_descriptor_same x y e0 e1 e2 e3 = rw (e0, e1, e2, e3) refl

pub vehicle_descriptor_one : IsOneToOne vehicle_descriptor_value
vehicle_descriptor_one x y e = vehicle_descriptor_same x y (ap (λ v. v.0) e) (ap (λ v. v.1.0) e) (ap (λ v. v.1.1.0) e) (list_one unknown_field unknown_one x.unknown y.unknown (ap (λ v. v.1.1.1) e))

abbrev entity_selector_with : Option (List ℕ) → Option (List ℕ) → Option ℤ → Option TripDescriptor → Option (List ℕ) → List Unknown → EntitySelector
entity_selector_with a0 a1 a2 a3 a4 a5 = record { agency_id = a0; route_id = a1; route_type = a2; trip = a3; stop_id = a4; unknown = a5 }

entity_selector_same : (x y : EntitySelector) → x.agency_id ≡ y.agency_id → x.route_id ≡ y.route_id → x.route_type ≡ y.route_type → x.trip ≡ y.trip → x.stop_id ≡ y.stop_id → x.unknown ≡ y.unknown → entity_selector_with x.agency_id x.route_id x.route_type x.trip x.stop_id x.unknown ≡ entity_selector_with y.agency_id y.route_id y.route_type y.trip y.stop_id y.unknown
entity_selector_same x y e0 e1 e2 e3 e4 e5 = rw (e0, e1, e2, e3, e4, e5) refl

pub entity_selector_one : IsOneToOne entity_selector_value
entity_selector_one x y e = entity_selector_same x y (ap (λ v. v.0) e) (ap (λ v. v.1.0) e) (ap (λ v. v.1.1.0) e) (option_one trip_descriptor_value trip_descriptor_one x.trip y.trip (ap (λ v. v.1.1.1.0) e)) (ap (λ v. v.1.1.1.1.0) e) (list_one unknown_field unknown_one x.unknown y.unknown (ap (λ v. v.1.1.1.1.1) e))

abbrev alert_with : List TimeRange → List EntitySelector → Option ℕ → Option ℕ → Option TranslatedString → Option TranslatedString → Option TranslatedString → List Unknown → Alert
alert_with a0 a1 a2 a3 a4 a5 a6 a7 = record { active_period = a0; informed_entity = a1; cause = a2; effect = a3; url = a4; header_text = a5; description_text = a6; unknown = a7 }

alert_same : (x y : Alert) → x.active_period ≡ y.active_period → x.informed_entity ≡ y.informed_entity → x.cause ≡ y.cause → x.effect ≡ y.effect → x.url ≡ y.url → x.header_text ≡ y.header_text → x.description_text ≡ y.description_text → x.unknown ≡ y.unknown → alert_with x.active_period x.informed_entity x.cause x.effect x.url x.header_text x.description_text x.unknown ≡ alert_with y.active_period y.informed_entity y.cause y.effect y.url y.header_text y.description_text y.unknown
alert_same x y e0 e1 e2 e3 e4 e5 e6 e7 = rw (e0, e1, e2, e3, e4, e5, e6, e7) refl

pub alert_one : IsOneToOne alert_value
alert_one x y e = alert_same x y (list_one time_range_value time_range_one x.active_period y.active_period (ap (λ v. v.0) e)) (list_one entity_selector_value entity_selector_one x.informed_entity y.informed_entity (ap (λ v. v.1.0) e)) (natural_one x.cause y.cause (ap (λ v. v.1.1.0) e)) (natural_one x.effect y.effect (ap (λ v. v.1.1.1.0) e)) (option_one translated_string_value translated_string_one x.url y.url (ap (λ v. v.1.1.1.1.0) e)) (option_one translated_string_value translated_string_one x.header_text y.header_text (ap (λ v. v.1.1.1.1.1.0) e)) (option_one translated_string_value translated_string_one x.description_text y.description_text (ap (λ v. v.1.1.1.1.1.1.0) e)) (list_one unknown_field unknown_one x.unknown y.unknown (ap (λ v. v.1.1.1.1.1.1.1) e))

abbrev position_with : ℕ → ℕ → Option ℕ → Option ℕ → Option ℕ → List Unknown → Position
position_with a0 a1 a2 a3 a4 a5 = record { latitude = a0; longitude = a1; bearing = a2; odometer = a3; speed = a4; unknown = a5 }

position_same : (x y : Position) → x.latitude ≡ y.latitude → x.longitude ≡ y.longitude → x.bearing ≡ y.bearing → x.odometer ≡ y.odometer → x.speed ≡ y.speed → x.unknown ≡ y.unknown → position_with x.latitude x.longitude x.bearing x.odometer x.speed x.unknown ≡ position_with y.latitude y.longitude y.bearing y.odometer y.speed y.unknown
position_same x y e0 e1 e2 e3 e4 e5 = rw (e0, e1, e2, e3, e4, e5) refl

pub position_one : IsOneToOne position_value
position_one x y e = position_same x y (pos_one x.latitude y.latitude (ap (λ v. v.0) e)) (pos_one x.longitude y.longitude (ap (λ v. v.1.0) e)) (natural_one x.bearing y.bearing (ap (λ v. v.1.1.0) e)) (natural_one x.odometer y.odometer (ap (λ v. v.1.1.1.0) e)) (natural_one x.speed y.speed (ap (λ v. v.1.1.1.1.0) e)) (list_one unknown_field unknown_one x.unknown y.unknown (ap (λ v. v.1.1.1.1.1) e))

abbrev vehicle_position_with : Option TripDescriptor → Option Position → Option ℕ → Option ℕ → Option ℕ → Option ℕ → Option (List ℕ) → Option VehicleDescriptor → Option ℕ → List Unknown → VehiclePosition
vehicle_position_with a0 a1 a2 a3 a4 a5 a6 a7 a8 a9 = record { trip = a0; position = a1; current_stop_sequence = a2; current_status = a3; timestamp = a4; congestion_level = a5; stop_id = a6; vehicle = a7; occupancy_status = a8; unknown = a9 }

vehicle_position_same : (x y : VehiclePosition) → x.trip ≡ y.trip → x.position ≡ y.position → x.current_stop_sequence ≡ y.current_stop_sequence → x.current_status ≡ y.current_status → x.timestamp ≡ y.timestamp → x.congestion_level ≡ y.congestion_level → x.stop_id ≡ y.stop_id → x.vehicle ≡ y.vehicle → x.occupancy_status ≡ y.occupancy_status → x.unknown ≡ y.unknown → vehicle_position_with x.trip x.position x.current_stop_sequence x.current_status x.timestamp x.congestion_level x.stop_id x.vehicle x.occupancy_status x.unknown ≡ vehicle_position_with y.trip y.position y.current_stop_sequence y.current_status y.timestamp y.congestion_level y.stop_id y.vehicle y.occupancy_status y.unknown
vehicle_position_same x y e0 e1 e2 e3 e4 e5 e6 e7 e8 e9 = rw (e0, e1, e2, e3, e4, e5, e6, e7, e8, e9) refl

pub vehicle_position_one : IsOneToOne vehicle_position_value
vehicle_position_one x y e = vehicle_position_same x y (option_one trip_descriptor_value trip_descriptor_one x.trip y.trip (ap (λ v. v.0) e)) (option_one position_value position_one x.position y.position (ap (λ v. v.1.0) e)) (natural_one x.current_stop_sequence y.current_stop_sequence (ap (λ v. v.1.1.0) e)) (natural_one x.current_status y.current_status (ap (λ v. v.1.1.1.0) e)) (natural_one x.timestamp y.timestamp (ap (λ v. v.1.1.1.1.0) e)) (natural_one x.congestion_level y.congestion_level (ap (λ v. v.1.1.1.1.1.0) e)) (ap (λ v. v.1.1.1.1.1.1.0) e) (option_one vehicle_descriptor_value vehicle_descriptor_one x.vehicle y.vehicle (ap (λ v. v.1.1.1.1.1.1.1.0) e)) (natural_one x.occupancy_status y.occupancy_status (ap (λ v. v.1.1.1.1.1.1.1.1.0) e)) (list_one unknown_field unknown_one x.unknown y.unknown (ap (λ v. v.1.1.1.1.1.1.1.1.1) e))

abbrev stop_time_event_with : Option ℤ → Option ℤ → Option ℤ → List Unknown → StopTimeEvent
stop_time_event_with a0 a1 a2 a3 = record { delay = a0; time = a1; uncertainty = a2; unknown = a3 }

stop_time_event_same : (x y : StopTimeEvent) → x.delay ≡ y.delay → x.time ≡ y.time → x.uncertainty ≡ y.uncertainty → x.unknown ≡ y.unknown → stop_time_event_with x.delay x.time x.uncertainty x.unknown ≡ stop_time_event_with y.delay y.time y.uncertainty y.unknown
stop_time_event_same x y e0 e1 e2 e3 = rw (e0, e1, e2, e3) refl

pub stop_time_event_one : IsOneToOne stop_time_event_value
stop_time_event_one x y e = stop_time_event_same x y (ap (λ v. v.0) e) (ap (λ v. v.1.0) e) (ap (λ v. v.1.1.0) e) (list_one unknown_field unknown_one x.unknown y.unknown (ap (λ v. v.1.1.1) e))

abbrev stop_time_properties_with : Option (List ℕ) → List Unknown → StopTimeProperties
stop_time_properties_with a0 a1 = record { assigned_stop_id = a0; unknown = a1 }

stop_time_properties_same : (x y : StopTimeProperties) → x.assigned_stop_id ≡ y.assigned_stop_id → x.unknown ≡ y.unknown → stop_time_properties_with x.assigned_stop_id x.unknown ≡ stop_time_properties_with y.assigned_stop_id y.unknown
stop_time_properties_same x y e0 e1 = rw (e0, e1) refl

pub stop_time_properties_one : IsOneToOne stop_time_properties_value
stop_time_properties_one x y e = stop_time_properties_same x y (ap (λ v. v.0) e) (list_one unknown_field unknown_one x.unknown y.unknown (ap (λ v. v.1) e))

abbrev stop_time_update_with : Option ℕ → Option StopTimeEvent → Option StopTimeEvent → Option (List ℕ) → Option ℕ → Option StopTimeProperties → List Unknown → StopTimeUpdate
stop_time_update_with a0 a1 a2 a3 a4 a5 a6 = record { stop_sequence = a0; arrival = a1; departure = a2; stop_id = a3; schedule_relationship = a4; stop_time_properties = a5; unknown = a6 }

stop_time_update_same : (x y : StopTimeUpdate) → x.stop_sequence ≡ y.stop_sequence → x.arrival ≡ y.arrival → x.departure ≡ y.departure → x.stop_id ≡ y.stop_id → x.schedule_relationship ≡ y.schedule_relationship → x.stop_time_properties ≡ y.stop_time_properties → x.unknown ≡ y.unknown → stop_time_update_with x.stop_sequence x.arrival x.departure x.stop_id x.schedule_relationship x.stop_time_properties x.unknown ≡ stop_time_update_with y.stop_sequence y.arrival y.departure y.stop_id y.schedule_relationship y.stop_time_properties y.unknown
stop_time_update_same x y e0 e1 e2 e3 e4 e5 e6 = rw (e0, e1, e2, e3, e4, e5, e6) refl

pub stop_time_update_one : IsOneToOne stop_time_update_value
stop_time_update_one x y e = stop_time_update_same x y (natural_one x.stop_sequence y.stop_sequence (ap (λ v. v.0) e)) (option_one stop_time_event_value stop_time_event_one x.arrival y.arrival (ap (λ v. v.1.0) e)) (option_one stop_time_event_value stop_time_event_one x.departure y.departure (ap (λ v. v.1.1.0) e)) (ap (λ v. v.1.1.1.0) e) (natural_one x.schedule_relationship y.schedule_relationship (ap (λ v. v.1.1.1.1.0) e)) (option_one stop_time_properties_value stop_time_properties_one x.stop_time_properties y.stop_time_properties (ap (λ v. v.1.1.1.1.1.0) e)) (list_one unknown_field unknown_one x.unknown y.unknown (ap (λ v. v.1.1.1.1.1.1) e))

abbrev trip_properties_with : Option (List ℕ) → Option (List ℕ) → Option (List ℕ) → List Unknown → TripProperties
trip_properties_with a0 a1 a2 a3 = record { trip_id = a0; start_date = a1; start_time = a2; unknown = a3 }

trip_properties_same : (x y : TripProperties) → x.trip_id ≡ y.trip_id → x.start_date ≡ y.start_date → x.start_time ≡ y.start_time → x.unknown ≡ y.unknown → trip_properties_with x.trip_id x.start_date x.start_time x.unknown ≡ trip_properties_with y.trip_id y.start_date y.start_time y.unknown
trip_properties_same x y e0 e1 e2 e3 = rw (e0, e1, e2, e3) refl

pub trip_properties_one : IsOneToOne trip_properties_value
trip_properties_one x y e = trip_properties_same x y (ap (λ v. v.0) e) (ap (λ v. v.1.0) e) (ap (λ v. v.1.1.0) e) (list_one unknown_field unknown_one x.unknown y.unknown (ap (λ v. v.1.1.1) e))

abbrev trip_update_with : TripDescriptor → List StopTimeUpdate → Option VehicleDescriptor → Option ℕ → Option ℤ → Option TripProperties → List Unknown → TripUpdate
trip_update_with a0 a1 a2 a3 a4 a5 a6 = record { trip = a0; stop_time_update = a1; vehicle = a2; timestamp = a3; delay = a4; trip_properties = a5; unknown = a6 }

trip_update_same : (x y : TripUpdate) → x.trip ≡ y.trip → x.stop_time_update ≡ y.stop_time_update → x.vehicle ≡ y.vehicle → x.timestamp ≡ y.timestamp → x.delay ≡ y.delay → x.trip_properties ≡ y.trip_properties → x.unknown ≡ y.unknown → trip_update_with x.trip x.stop_time_update x.vehicle x.timestamp x.delay x.trip_properties x.unknown ≡ trip_update_with y.trip y.stop_time_update y.vehicle y.timestamp y.delay y.trip_properties y.unknown
trip_update_same x y e0 e1 e2 e3 e4 e5 e6 = rw (e0, e1, e2, e3, e4, e5, e6) refl

pub trip_update_one : IsOneToOne trip_update_value
trip_update_one x y e = trip_update_same x y (trip_descriptor_one x.trip y.trip (ap (λ v. v.0) e)) (list_one stop_time_update_value stop_time_update_one x.stop_time_update y.stop_time_update (ap (λ v. v.1.0) e)) (option_one vehicle_descriptor_value vehicle_descriptor_one x.vehicle y.vehicle (ap (λ v. v.1.1.0) e)) (natural_one x.timestamp y.timestamp (ap (λ v. v.1.1.1.0) e)) (ap (λ v. v.1.1.1.1.0) e) (option_one trip_properties_value trip_properties_one x.trip_properties y.trip_properties (ap (λ v. v.1.1.1.1.1.0) e)) (list_one unknown_field unknown_one x.unknown y.unknown (ap (λ v. v.1.1.1.1.1.1) e))

abbrev entity_with : List ℕ → Option Bool → Option TripUpdate → Option VehiclePosition → Option Alert → List Unknown → Entity
entity_with a0 a1 a2 a3 a4 a5 = record { id = a0; is_deleted = a1; trip_update = a2; vehicle = a3; alert = a4; unknown = a5 }

entity_same : (x y : Entity) → x.id ≡ y.id → x.is_deleted ≡ y.is_deleted → x.trip_update ≡ y.trip_update → x.vehicle ≡ y.vehicle → x.alert ≡ y.alert → x.unknown ≡ y.unknown → entity_with x.id x.is_deleted x.trip_update x.vehicle x.alert x.unknown ≡ entity_with y.id y.is_deleted y.trip_update y.vehicle y.alert y.unknown
entity_same x y e0 e1 e2 e3 e4 e5 = rw (e0, e1, e2, e3, e4, e5) refl

pub entity_one : IsOneToOne entity_value
entity_one x y e = entity_same x y (ap (λ v. v.0) e) (option_one truth_number truth_one x.is_deleted y.is_deleted (ap (λ v. v.1.0) e)) (option_one trip_update_value trip_update_one x.trip_update y.trip_update (ap (λ v. v.1.1.0) e)) (option_one vehicle_position_value vehicle_position_one x.vehicle y.vehicle (ap (λ v. v.1.1.1.0) e)) (option_one alert_value alert_one x.alert y.alert (ap (λ v. v.1.1.1.1.0) e)) (list_one unknown_field unknown_one x.unknown y.unknown (ap (λ v. v.1.1.1.1.1) e))

abbrev feed_header_with : List ℕ → Option ℕ → Option ℕ → Option (List ℕ) → List Unknown → FeedHeader
feed_header_with a0 a1 a2 a3 a4 = record { gtfs_realtime_version = a0; incrementality = a1; timestamp = a2; feed_version = a3; unknown = a4 }

feed_header_same : (x y : FeedHeader) → x.gtfs_realtime_version ≡ y.gtfs_realtime_version → x.incrementality ≡ y.incrementality → x.timestamp ≡ y.timestamp → x.feed_version ≡ y.feed_version → x.unknown ≡ y.unknown → feed_header_with x.gtfs_realtime_version x.incrementality x.timestamp x.feed_version x.unknown ≡ feed_header_with y.gtfs_realtime_version y.incrementality y.timestamp y.feed_version y.unknown
feed_header_same x y e0 e1 e2 e3 e4 = rw (e0, e1, e2, e3, e4) refl

pub feed_header_one : IsOneToOne feed_header_value
feed_header_one x y e = feed_header_same x y (ap (λ v. v.0) e) (natural_one x.incrementality y.incrementality (ap (λ v. v.1.0) e)) (natural_one x.timestamp y.timestamp (ap (λ v. v.1.1.0) e)) (ap (λ v. v.1.1.1.0) e) (list_one unknown_field unknown_one x.unknown y.unknown (ap (λ v. v.1.1.1.1) e))

abbrev feed_message_with : FeedHeader → List Entity → List Unknown → FeedMessage
feed_message_with a0 a1 a2 = record { header = a0; entity = a1; unknown = a2 }

feed_message_same : (x y : FeedMessage) → x.header ≡ y.header → x.entity ≡ y.entity → x.unknown ≡ y.unknown → feed_message_with x.header x.entity x.unknown ≡ feed_message_with y.header y.entity y.unknown
feed_message_same x y e0 e1 e2 = rw (e0, e1, e2) refl

pub feed_message_one : IsOneToOne feed_message_value
feed_message_one x y e = feed_message_same x y (feed_header_one x.header y.header (ap (λ v. v.0) e)) (list_one entity_value entity_one x.entity y.entity (ap (λ v. v.1.0) e)) (list_one unknown_field unknown_one x.unknown y.unknown (ap (λ v. v.1.1) e))
