-- The events of a trip: the arrival and the departure of its first stop, then of the second, and so on.
-- (GTFS Schedule Reference, "stop_times.txt"; the positions are this profile's.)
use Rattle.std.specs.Prelude.{ℕ, ◌+◌, ◌*◌, ℤ, pos, ◌+ℤ◌, List, [], ◌∷◌, Option, option_map, option_and_then, slice_get}
use Rattle.feed_values.specs.declared.stop_time_update.StopTimeUpdate.{StopTimeUpdate}
use Rattle.timetable.specs.Maps.{Text}
use Rattle.propagation.specs.Matching.{matcher}
use Rattle.propagation.specs.Stops.{Stop}
use Rattle.propagation.specs.declared.event.Event.{Event as HeldEvent}
use Rattle.propagation.specs.declared.event_kind.EventKind.{EventKind}
use Rattle.propagation.specs.declared.event_kind.EventKind.TheVariants as kind
use Rattle.propagation.specs.declared.own.Own.{Own as HeldOwn}

-- the update that matches a stop, with its index
pub record Own : Type 0 where
  pub index : ℕ
  pub update : StopTimeUpdate

-- an event of a trip: its position, what it is, the stop_sequence and stop_id of its stop, when it is scheduled, and the
-- update of its stop
pub record Event : Type 0 where
  pub position : ℤ
  pub event : EventKind
  pub sequence : ℕ
  pub stop : Text
  pub scheduled : Option ℤ
  pub own : Option Own

abbrev pub own_of : List StopTimeUpdate → Option ℕ → Option Own
own_of updates by = option_and_then (λ k. option_map (λ update. record { index = k; update = update }) (slice_get updates k)) by

-- a time of the trip counts from the trip's zero: the origin of its service day, as much later as its shift says
abbrev pub scheduled_at : ℤ → Option ℕ → Option ℤ
scheduled_at zero time = option_map (λ t. zero +ℤ pos t) time

abbrev pub arrival_at : ℤ → ℕ → Stop → Option Own → Event
arrival_at zero place stop own = record {
  position = pos (2 * place);
  event = kind.Arrival;
  sequence = stop.sequence;
  stop = stop.stop;
  scheduled = scheduled_at zero stop.arrival;
  own = own;
}

abbrev pub departure_at : ℤ → ℕ → Stop → Option Own → Event
departure_at zero place stop own = record {
  position = pos (2 * place + 1);
  event = kind.Departure;
  sequence = stop.sequence;
  stop = stop.stop;
  scheduled = scheduled_at zero stop.departure;
  own = own;
}

-- the events of stops from a place on
abbrev pub events_from : ℤ → List StopTimeUpdate → List (Option ℕ) → ℕ → List Stop → List Event
events_from zero updates matches place [] = []
events_from zero updates matches place (stop ∷ stops) =
    let own = own_of updates (matcher matches place) in
    arrival_at zero place stop own ∷ departure_at zero place stop own ∷ events_from zero updates matches (place + 1) stops

-- the events of a trip
abbrev pub events : ℤ → List Stop → List StopTimeUpdate → List (Option ℕ) → List Event
events zero stops updates matches = events_from zero updates matches 0 stops

-- what an event of the code stands for
abbrev pub own_in : HeldOwn → Own
own_in own = record { index = own.index; update = own.update.now }

abbrev pub event_in : HeldEvent → Event
event_in e = record {
  position = e.position;
  event = e.event;
  sequence = e.sequence;
  stop = e.stop.now;
  scheduled = e.scheduled;
  own = option_map own_in e.own;
}
