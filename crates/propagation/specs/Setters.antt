-- Which delays a trip update sets, and which of them governs an event.
-- (GTFS Realtime Reference, "Trip Updates", delay propagation; "TripUpdate", delay; "StopTimeUpdate", schedule_relationship;
-- "StopTimeEvent". The positions are this profile's.)
use Rattle.std.specs.Prelude.{ℕ, ◌==◌, ℤ, pos, negsuc, ◌-ℤ◌, ◌<ℤ◌, int_le, Bool, true, false, ◌&&◌, List, [], ◌∷◌, ◌++◌, flat_map, filter, All, AllPairs, Option, Some, None, IfSome, option_map, option_and_then, unwrap_or, if◌then◌else◌}
use Rattle.jiff_core.specs.Calendar.{IsBetween}
use Rattle.feed_values.specs.Meaning.{last_of}
use Rattle.feed_values.specs.declared.stop_time_event.StopTimeEvent.{StopTimeEvent}
use Rattle.feed_values.specs.declared.stop_time_update.StopTimeUpdate.{StopTimeUpdate}
use Rattle.propagation.specs.Events.{Event, Own}
use Rattle.propagation.specs.declared.event_kind.EventKind.{EventKind}
use Rattle.propagation.specs.declared.event_kind.EventKind.TheVariants as kind
use Rattle.propagation.specs.declared.placed_setter.PlacedSetter.{PlacedSetter}
use Rattle.propagation.specs.declared.setter.Setter.{Setter}
use Rattle.propagation.specs.declared.source.Source.TheVariants as source

-- the relationship of an update: 0 SCHEDULED, which is also meant where none is given, 1 SKIPPED, 2 NO_DATA
abbrev pub is_scheduled : Option ℕ → Bool
is_scheduled relationship = unwrap_or relationship 0 == 0

abbrev pub is_skipped : Option ℕ → Bool
is_skipped relationship = unwrap_or relationship 0 == 1

abbrev pub has_no_data : Option ℕ → Bool
has_no_data relationship = unwrap_or relationship 0 == 2

-- what an update states of the arrival and of the departure
abbrev pub stated_event : EventKind → StopTimeUpdate → Option StopTimeEvent
stated_event kind.Arrival update = update.arrival
stated_event kind.Departure update = update.departure
stated_event kind.Trip update = None
stated_event kind.Update update = None

abbrev pub stated_time : EventKind → StopTimeUpdate → Option ℤ
stated_time event update = option_and_then (λ e. e.time) (stated_event event update)

abbrev pub stated_delay : EventKind → StopTimeUpdate → Option ℤ
stated_delay event update = option_and_then (λ e. e.delay) (stated_event event update)

-- a delay is the stated time less the scheduled one where both are given, else the stated delay
abbrev pub delay_by : (time scheduled stated : Option ℤ) → Option ℤ
delay_by (Some time) (Some scheduled) stated = Some (time -ℤ scheduled)
delay_by (Some time) None stated = stated
delay_by None scheduled stated = stated

abbrev pub is_arrival : EventKind → Bool
is_arrival kind.Arrival = true
is_arrival kind.Departure = false
is_arrival kind.Trip = false
is_arrival kind.Update = false

-- what the update of a stop sets at an event: NO_DATA sets at the arrival that there is no data, SKIPPED sets nothing
abbrev pub set_by : Event → Own → Option Setter
set_by e own =
    if has_no_data own.update.schedule_relationship && is_arrival e.event then Some (record { source = source.Update own.index; delay = None })
    else (if is_scheduled own.update.schedule_relationship
    then option_map (λ delay. record { source = source.Update own.index; delay = Some delay })
    (delay_by (stated_time e.event own.update) e.scheduled (stated_delay e.event own.update))
    else None)

abbrev pub set_at : Event → Option Setter
set_at e = option_and_then (set_by e) e.own

abbrev pub placed : ℤ → Option Setter → List PlacedSetter
placed position None = []
placed position (Some setter) = record { position = position; setter = setter } ∷ []

-- the delay of the whole trip is set before its first event
abbrev pub trip_setters : Option ℤ → List PlacedSetter
trip_setters delay = placed (negsuc 0) (option_map (λ d. record { source = source.Trip; delay = Some d }) delay)

abbrev pub event_setters : List Event → List PlacedSetter
event_setters events = flat_map (λ e. placed e.position (set_at e)) events

-- all setters, by rising position
abbrev pub setters : Option ℤ → List Event → List PlacedSetter
setters delay events = trip_setters delay ++ event_setters events

abbrev pub last_setter : List PlacedSetter → Option Setter
last_setter setters = option_map (λ s. s.setter) (last_of setters)

-- the last setter at or before a position
abbrev pub governing : List PlacedSetter → ℤ → Option Setter
governing setters position = last_setter (filter (λ s. int_le s.position position) setters)

-- the scheduled times and the delays that can come: no sum of them leaves 128 bits
abbrev pub IsInstant : ℤ → Type 0
IsInstant n = IsBetween (negsuc 36_893_488_147_419_103_231) (pos 36_893_488_147_419_103_232) n

abbrev pub IsDelay : ℤ → Type 0
IsDelay n = IsBetween (negsuc 73_786_976_294_838_206_463) (pos 73_786_976_294_838_206_464) n

abbrev pub IsZero : ℤ → Type 0
IsZero n = IsBetween (negsuc 18_446_744_073_709_551_615) (pos 18_446_744_073_709_551_616) n

abbrev pub AreSmall : List PlacedSetter → Type 0
AreSmall placed = All (λ s. IfSome s.setter.delay IsDelay) placed

-- positions rise, so no two setters have one position
abbrev pub AreInOrder : List PlacedSetter → Type 0
AreInOrder setters = AllPairs (λ earlier later. earlier.position <ℤ later.position) setters

-- setters before the first event
abbrev pub BeforeFirst : List PlacedSetter → Type 0
BeforeFirst placed = AreSmall placed × All (λ s. s.position <ℤ pos 0) placed
