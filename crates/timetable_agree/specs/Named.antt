-- The ids of a timetable's rows that an entity gives.
-- (GTFS Realtime Reference 2.0, "TripDescriptor", "StopTimeUpdate", "VehiclePosition", "EntitySelector".)
use Rattle.std.specs.Prelude.{List, [], ◌∷◌, ◌++◌, map, Option, Some, None, option_and_then, option_copied}
use Rattle.timetable.specs.Maps.{Text}
use Rattle.feed_values.specs.Schema.{Value}
use Rattle.feed_values.specs.Messages.{entity, alert, entity_selector, stop_time_update, trip_descriptor, trip_update, vehicle_position}
use Rattle.rule_table.specs.Judged.{update_of, alert_of}
use Rattle.rule_table.specs.Pairs.{vehicle_of}
use Rattle.timetable_agree.specs.declared.named.Named.{Named}

-- what one part of an entity names: its trip descriptor's trip and route, and ids of its own
pub record Naming : Type 0 where
  pub trip : Option Text
  pub trip_route : Option Text
  pub route : Option Text
  pub stop : Option Text
  pub assigned_stop : Option Text
  pub agency : Option Text

abbrev pub nothing : Naming
nothing = record { trip = None; trip_route = None; route = None; stop = None; assigned_stop = None; agency = None }

-- borrowed ids as their bytes
abbrev pub named_value : Named → Naming
named_value n = record {
  trip = option_copied n.trip;
  trip_route = option_copied n.trip_route;
  route = option_copied n.route;
  stop = option_copied n.stop;
  assigned_stop = option_copied n.assigned_stop;
  agency = option_copied n.agency;
}

-- ---- of a trip descriptor
abbrev pub trip_id_of : Value trip_descriptor → Option Text
trip_id_of trip = trip.0

abbrev pub route_id_of : Value trip_descriptor → Option Text
route_id_of trip = trip.1.1.1.1.0

abbrev pub by_trip : Option (Value trip_descriptor) → Naming
by_trip trip = record nothing { trip = option_and_then trip_id_of trip; trip_route = option_and_then route_id_of trip }

-- ---- of an entity's parts
abbrev pub by_update : Option (Value trip_update) → Naming
by_update None = nothing
by_update (Some update) = by_trip (Some update.0)

abbrev pub by_vehicle : Option (Value vehicle_position) → Naming
by_vehicle None = nothing
by_vehicle (Some vehicle) = record (by_trip vehicle.0) { stop = vehicle.1.1.1.1.1.1.0 }

abbrev pub by_selector : Value entity_selector → Naming
by_selector selector = record (by_trip selector.1.1.1.0) { route = selector.1.0; stop = selector.1.1.1.1.0; agency = selector.0 }

abbrev pub by_stop : Value stop_time_update → Naming
by_stop update = record nothing { stop = update.1.1.1.0; assigned_stop = option_and_then (λ properties. properties.0) update.1.1.1.1.1.0 }

abbrev pub selectors_of : Option (Value alert) → List (Value entity_selector)
selectors_of None = []
selectors_of (Some alert) = alert.1.0

abbrev pub stops_of : Option (Value trip_update) → List (Value stop_time_update)
stops_of None = []
stops_of (Some update) = update.1.0

-- what all parts of an entity name: its trip update, its vehicle position, its alert's selectors and its stop time updates
abbrev pub namings : Value entity → List Naming
namings e = by_update (update_of e) ∷ by_vehicle (vehicle_of e) ∷ (map by_selector (selectors_of (alert_of e)) ++ map by_stop (stops_of (update_of e)))
