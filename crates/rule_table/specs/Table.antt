-- The rules, row by row: where a rule is judged, which facts it cites there, and when they break it.
-- (This profile. The fields are those of the GTFS Realtime Reference 2.0; the numbers of the rules, but for X001 and X002, are those
-- of MobilityData's gtfs-realtime-validator, RULES.md, and nothing else of it.)
use Rattle.std.specs.Prelude.{ℕ, List, [], ◌∷◌}
use Rattle.feed_values.specs.declared.slot.Slot.{Slot}
use Rattle.feed_values.specs.SlotNames.{header_version, header_incrementality, header_timestamp, entity_id, entity_is_deleted, update, update_trip_id, update_start_time, update_start_date, update_trip_relationship, update_route_id, update_direction_id, update_stops, update_vehicle_id, update_timestamp, update_stop, update_stop_sequence, update_stop_id, update_stop_relationship, update_arrival, update_arrival_time, update_departure, update_departure_time, update_assigned_stop_id, update_properties_start_date, update_properties_start_time, vehicle_trip_id, vehicle_start_time, vehicle_start_date, vehicle_trip_relationship, vehicle_route_id, vehicle_direction_id, vehicle_id, vehicle_timestamp, vehicle_stop_id, alert_start, alert_end, alert_selectors, alert_selector, alert_agency_id, alert_route_id, alert_route_type, alert_trip, alert_trip_id, alert_start_time, alert_start_date, alert_trip_route_id, alert_direction_id, alert_stop_id}
use Rattle.rule_table.specs.declared.rule.RuleId.{RuleId}
use Rattle.rule_table.specs.declared.rule.RuleId.TheVariants.{E001, E002, E003, E004, E006, E009, E011, E012, E013, E015, E016, E017, E018, E019, E020, E021, E022, E023, E024, E025, E030, E031, E032, E033, E034, E035, E036, E037, E038, E039, E040, E041, E042, E043, E044, E045, E046, E047, E048, E049, E050, E051, E052, W001, W002, W003, W005, W006, W007, W008, W009, X001, X002}
use Rattle.rule_table.specs.declared.row.Cite.{Cite}
use Rattle.rule_table.specs.declared.row.Cite.TheVariants.{Place, Cell, Before, TripId, StartTime, StartDate, Relationship, Delay, Time, Holder, HeadNow, HeadBefore, Moment, Occurrence, EntitiesChanged, TripKnown, RouteKnown, AgencyKnown, StopKind, TripRoute, TripDirection, TripExact, OnGrid, VisitsTwice, FirstArrival, StopAt, EventAt, FirstVehicle, HasPair, AnyRow, HasId, FirstId, FirstOccurrence, Peak}
use Rattle.rule_table.specs.declared.row.Atom.{Atom}
use Rattle.rule_table.specs.declared.row.Atom.TheVariants.{Given, Missing, Is, IsNot, AtLeast, AnyMissing, Outside, NotBelow, Below, Above, Equal, Differ, IsTime, NotClock, NotDate, TimeDiffers, NotLater, NotVersion, IsVersion2, NotVersion2, NotItself}

-- the rules in the order of their texts
abbrev pub all_rules : List RuleId
all_rules = E001 ∷ E002 ∷ E003 ∷ E004 ∷ E006 ∷ E009 ∷ E011 ∷ E012 ∷ E013 ∷ E015 ∷ E016 ∷ E017 ∷ E018 ∷ E019 ∷ E020 ∷ E021 ∷ E022 ∷ E023 ∷ E024 ∷ E025 ∷ E030 ∷ E031 ∷ E032 ∷ E033 ∷ E034 ∷ E035 ∷ E036 ∷ E037 ∷ E038 ∷ E039 ∷ E040 ∷ E041 ∷ E042 ∷ E043 ∷ E044 ∷ E045 ∷ E046 ∷ E047 ∷ E048 ∷ E049 ∷ E050 ∷ E051 ∷ E052 ∷ W001 ∷ W002 ∷ W003 ∷ W005 ∷ W006 ∷ W007 ∷ W008 ∷ W009 ∷ X001 ∷ X002 ∷ []

-- the slots of an entity at which a rule is judged, by rising number
abbrev pub slots_of : RuleId → List Slot
slots_of E001 = update_timestamp ∷ update_arrival_time ∷ update_departure_time ∷ vehicle_timestamp ∷ alert_start ∷ alert_end ∷ []
slots_of E002 = update_stop_sequence ∷ []
slots_of E003 = update_trip_id ∷ vehicle_trip_id ∷ alert_trip_id ∷ []
slots_of E004 = update_route_id ∷ vehicle_route_id ∷ alert_route_id ∷ alert_trip_route_id ∷ []
slots_of E006 = update_trip_id ∷ vehicle_trip_id ∷ []
slots_of E009 = update_stop_sequence ∷ []
slots_of E011 = update_stop_id ∷ update_assigned_stop_id ∷ vehicle_stop_id ∷ alert_stop_id ∷ []
slots_of E012 = update_timestamp ∷ vehicle_timestamp ∷ []
slots_of E013 = update_trip_relationship ∷ vehicle_trip_relationship ∷ []
slots_of E015 = update_stop_id ∷ update_assigned_stop_id ∷ vehicle_stop_id ∷ []
slots_of E016 = update_trip_id ∷ vehicle_trip_id ∷ alert_trip_id ∷ []
slots_of E019 = update_start_time ∷ vehicle_start_time ∷ []
slots_of E020 = update_start_time ∷ update_properties_start_time ∷ vehicle_start_time ∷ alert_start_time ∷ []
slots_of E021 = update_start_date ∷ update_properties_start_date ∷ vehicle_start_date ∷ alert_start_date ∷ []
slots_of E022 = update_stop ∷ []
slots_of E023 = update_start_time ∷ vehicle_start_time ∷ []
slots_of E024 = update_direction_id ∷ vehicle_direction_id ∷ alert_direction_id ∷ []
slots_of E025 = update_departure_time ∷ []
slots_of E030 = alert_route_id ∷ []
slots_of E031 = alert_route_id ∷ []
slots_of E032 = alert_selectors ∷ []
slots_of E033 = alert_selector ∷ []
slots_of E034 = alert_agency_id ∷ []
slots_of E035 = update_route_id ∷ vehicle_route_id ∷ alert_trip_route_id ∷ []
slots_of E036 = update_stop_sequence ∷ []
slots_of E037 = update_stop_id ∷ []
slots_of E039 = entity_is_deleted ∷ []
slots_of E040 = update_stop ∷ []
slots_of E041 = update_stops ∷ []
slots_of E042 = update_arrival ∷ update_departure ∷ []
slots_of E043 = update_stop ∷ []
slots_of E044 = update_arrival ∷ update_departure ∷ []
slots_of E045 = update_stop_id ∷ []
slots_of E046 = update_arrival ∷ update_departure ∷ []
slots_of E047 = update_vehicle_id ∷ vehicle_id ∷ []
slots_of E050 = update_timestamp ∷ vehicle_timestamp ∷ []
slots_of E051 = update_stop_sequence ∷ []
slots_of E052 = vehicle_id ∷ []
slots_of W001 = update_timestamp ∷ vehicle_timestamp ∷ []
slots_of W002 = update_vehicle_id ∷ vehicle_id ∷ []
slots_of W003 = update_trip_id ∷ update_vehicle_id ∷ vehicle_trip_id ∷ vehicle_id ∷ []
slots_of W005 = update_vehicle_id ∷ []
slots_of W006 = update_trip_id ∷ []
slots_of W009 = update_trip_relationship ∷ update_stop_relationship ∷ vehicle_trip_relationship ∷ []
slots_of X001 = vehicle_timestamp ∷ []
slots_of X002 = entity_id ∷ []
slots_of _ = []

-- the slots of a header at which it is judged
abbrev pub head_slots_of : RuleId → List Slot
head_slots_of E001 = header_timestamp ∷ []
head_slots_of E017 = header_timestamp ∷ []
head_slots_of E018 = header_timestamp ∷ []
head_slots_of E038 = header_version ∷ []
head_slots_of E048 = header_timestamp ∷ []
head_slots_of E049 = header_incrementality ∷ []
head_slots_of E050 = header_timestamp ∷ []
head_slots_of W001 = header_timestamp ∷ []
head_slots_of W007 = header_timestamp ∷ []
head_slots_of W008 = header_timestamp ∷ []
head_slots_of _ = []

-- the least index at which it is judged
abbrev pub first_of : RuleId → ℕ
first_of E002 = 1
first_of E022 = 1
first_of E036 = 1
first_of E037 = 1
first_of _ = 0

-- the facts that it cites, in order; a number names an earlier one of them
abbrev pub cites_of : RuleId → List Cite
cites_of E001 = Place ∷ []
cites_of E002 = Before update_stop_sequence ∷ Place ∷ []
cites_of E003 = Place ∷ Relationship ∷ TripKnown 0 ∷ []
cites_of E004 = Place ∷ RouteKnown 0 ∷ []
cites_of E006 = Place ∷ StartTime ∷ StartDate ∷ TripExact 0 ∷ []
cites_of E009 = Cell update_stop ∷ Cell update_trip_id ∷ Place ∷ VisitsTwice 1 ∷ []
cites_of E011 = Place ∷ StopKind 0 ∷ []
cites_of E012 = Place ∷ HeadNow header_timestamp ∷ []
cites_of E013 = TripId ∷ Place ∷ TripExact 0 ∷ []
cites_of E015 = Place ∷ StopKind 0 ∷ []
cites_of E016 = Place ∷ Relationship ∷ TripKnown 0 ∷ []
cites_of E017 = HeadBefore header_timestamp ∷ Place ∷ EntitiesChanged ∷ []
cites_of E018 = HeadBefore header_timestamp ∷ Place ∷ []
cites_of E019 = TripId ∷ Place ∷ TripExact 0 ∷ OnGrid 0 1 ∷ []
cites_of E020 = Place ∷ []
cites_of E021 = Place ∷ []
cites_of E022 = Before update_arrival_time ∷ Before update_departure_time ∷ Cell update_arrival_time ∷ Cell update_departure_time ∷ []
cites_of E023 = TripId ∷ Place ∷ TripExact 0 ∷ FirstArrival 0 ∷ []
cites_of E024 = TripId ∷ Place ∷ TripDirection 0 ∷ []
cites_of E025 = Cell update_arrival_time ∷ Place ∷ []
cites_of E030 = Place ∷ Cell alert_trip_id ∷ TripRoute 1 ∷ []
cites_of E031 = Place ∷ Cell alert_trip_route_id ∷ []
cites_of E032 = Place ∷ []
cites_of E033 = Place ∷ Cell alert_agency_id ∷ Cell alert_route_id ∷ Cell alert_route_type ∷ Cell alert_trip ∷ Cell alert_stop_id ∷ []
cites_of E034 = Place ∷ AgencyKnown 0 ∷ []
cites_of E035 = TripId ∷ Place ∷ TripRoute 0 ∷ []
cites_of E036 = Before update_stop_sequence ∷ Place ∷ []
cites_of E037 = Before update_stop_id ∷ Place ∷ []
cites_of E038 = Place ∷ []
cites_of E039 = Place ∷ []
cites_of E040 = Place ∷ Cell update_stop_sequence ∷ Cell update_stop_id ∷ []
cites_of E041 = Place ∷ Cell update_trip_relationship ∷ []
cites_of E042 = Cell update_stop_relationship ∷ Place ∷ []
cites_of E043 = Place ∷ Cell update_stop_relationship ∷ Cell update_arrival ∷ Cell update_departure ∷ []
cites_of E044 = Place ∷ Delay ∷ Time ∷ []
cites_of E045 = Cell update_trip_id ∷ Cell update_stop_sequence ∷ Place ∷ StopAt 0 1 ∷ []
cites_of E046 = Cell update_trip_id ∷ Cell update_stop_sequence ∷ Delay ∷ Time ∷ StopAt 0 1 ∷ EventAt 0 1 ∷ []
cites_of E047 = TripId ∷ Place ∷ FirstVehicle 0 ∷ HasPair 0 1 ∷ []
cites_of E048 = Cell header_version ∷ Place ∷ []
cites_of E049 = Cell header_version ∷ Place ∷ []
cites_of E050 = Place ∷ Moment ∷ []
cites_of E051 = Cell update_trip_id ∷ Place ∷ TripKnown 0 ∷ StopAt 0 1 ∷ []
cites_of E052 = Place ∷ FirstId 0 ∷ FirstOccurrence 0 ∷ []
cites_of W001 = Holder ∷ Place ∷ []
cites_of W002 = Holder ∷ Place ∷ []
cites_of W003 = Place ∷ AnyRow ∷ HasId 0 ∷ []
cites_of W005 = Cell update_trip_id ∷ Place ∷ TripExact 0 ∷ []
cites_of W006 = Cell update ∷ Place ∷ []
cites_of W007 = HeadBefore header_timestamp ∷ Place ∷ []
cites_of W008 = Place ∷ Moment ∷ []
cites_of W009 = Holder ∷ Place ∷ []
cites_of X001 = Cell vehicle_id ∷ Place ∷ Peak 0 ∷ []
cites_of X002 = Place ∷ Occurrence ∷ []

-- the test on their values: all of these hold
abbrev pub test_of : RuleId → List Atom
test_of E001 = Outside 0 1104537600 4294967295 ∷ []
test_of E002 = NotBelow 0 1 ∷ []
test_of E003 = Is 2 0 ∷ IsNot 1 1 ∷ []
test_of E004 = Is 1 0 ∷ []
test_of E006 = Is 3 0 ∷ AnyMissing 1 2 ∷ []
test_of E009 = Given 0 ∷ Missing 2 ∷ Is 3 1 ∷ []
test_of E011 = Missing 1 ∷ []
test_of E012 = Below 1 0 ∷ []
test_of E013 = Is 2 0 ∷ Given 1 ∷ IsNot 1 2 ∷ []
test_of E015 = Given 1 ∷ IsNot 1 0 ∷ []
test_of E016 = Is 2 1 ∷ Is 1 1 ∷ []
test_of E017 = Equal 0 1 ∷ Is 2 1 ∷ []
test_of E018 = Below 1 0 ∷ []
test_of E019 = Is 2 1 ∷ IsTime 1 ∷ Is 3 0 ∷ []
test_of E020 = NotClock 0 ∷ []
test_of E021 = NotDate 0 ∷ []
test_of E022 = NotLater 0 1 2 3 ∷ []
test_of E023 = Missing 2 ∷ TimeDiffers 1 3 ∷ []
test_of E024 = Differ 1 2 ∷ []
test_of E025 = Below 1 0 ∷ []
test_of E030 = Differ 0 2 ∷ []
test_of E031 = Differ 0 1 ∷ []
test_of E032 = Is 0 0 ∷ []
test_of E033 = Given 0 ∷ Missing 1 ∷ Missing 2 ∷ Missing 3 ∷ Missing 4 ∷ Missing 5 ∷ []
test_of E034 = Is 1 0 ∷ []
test_of E035 = Differ 1 2 ∷ []
test_of E036 = Equal 0 1 ∷ []
test_of E037 = Equal 0 1 ∷ []
test_of E038 = NotVersion 0 ∷ []
test_of E039 = Given 0 ∷ []
test_of E040 = Given 0 ∷ Missing 1 ∷ Missing 2 ∷ []
test_of E041 = Is 0 0 ∷ IsNot 1 3 ∷ []
test_of E042 = Is 0 2 ∷ Given 1 ∷ []
test_of E043 = Given 0 ∷ IsNot 1 1 ∷ IsNot 1 2 ∷ Missing 2 ∷ Missing 3 ∷ []
test_of E044 = Given 0 ∷ Missing 1 ∷ Missing 2 ∷ []
test_of E045 = Differ 2 3 ∷ []
test_of E046 = Given 2 ∷ Missing 3 ∷ Given 4 ∷ Missing 5 ∷ []
test_of E047 = Given 2 ∷ Is 3 0 ∷ []
test_of E048 = IsVersion2 0 ∷ Missing 1 ∷ []
test_of E049 = IsVersion2 0 ∷ Missing 1 ∷ []
test_of E050 = Above 0 1 60 ∷ []
test_of E051 = Is 2 1 ∷ Missing 3 ∷ []
test_of E052 = NotItself 1 2 ∷ []
test_of W001 = Given 0 ∷ Missing 1 ∷ []
test_of W002 = Given 0 ∷ Missing 1 ∷ []
test_of W003 = Is 1 1 ∷ Is 2 0 ∷ []
test_of W005 = Is 2 0 ∷ Missing 1 ∷ []
test_of W006 = Given 0 ∷ Missing 1 ∷ []
test_of W007 = Above 1 0 35 ∷ []
test_of W008 = Above 1 0 65 ∷ []
test_of W009 = Given 0 ∷ Missing 1 ∷ []
test_of X001 = Below 1 2 ∷ []
test_of X002 = AtLeast 1 1 ∷ []

-- On a header one rule has facts and a test of its own, and the others those that they have at an entity.
abbrev pub head_cites_of : RuleId → List Cite
head_cites_of W001 = Cell header_version ∷ Place ∷ []
head_cites_of rule = cites_of rule

abbrev pub head_test_of : RuleId → List Atom
head_test_of W001 = NotVersion2 0 ∷ Missing 1 ∷ []
head_test_of rule = test_of rule
