-- What a row asks at a place, and what borrowed asks, facts and places say.
use Rattle.std.specs.Prelude.{ℕ, ◌-◌, ℤ, pos, negsuc, int_le, Bool, true, ◌&&◌, List, Option, Some, None, option_map, slice_get, unwrap_or, if◌then◌else◌}
use Rattle.feed_values.specs.declared.slot.Slot.{Slot}
use Rattle.feed_values.specs.declared.slot.Slot.TheVariants.{S20, S21, S22, S23, S24, S25, S26, S28, S29, S31, S34, S35, S36, S37, S38, S39, S40, S50, S51, S52, S53, S54, S55, S56, S57, S58, S59, S79, S80, S81, S82, S83, S84}
use Rattle.feed_values.specs.declared.path.Path.{Path}
use Rattle.feed_values.specs.declared.cell_value.CellValue.{CellValue}
use Rattle.feed_values.specs.declared.cell_value.CellValue.TheVariants as value
use Rattle.feed_values.specs.Cells.{cell_value, has_item, way}
use Rattle.rule_table.specs.declared.ask.Ask.{Ask}
use Rattle.rule_table.specs.declared.ask.Ask.TheVariants as ask
use Rattle.rule_table.specs.declared.ask.AskRef.{AskRef}
use Rattle.rule_table.specs.declared.ask.AskRef.TheVariants as borrowed
use Rattle.rule_table.specs.declared.fact.Fact.{Fact}
use Rattle.rule_table.specs.declared.fact.FactRef.{FactRef}
use Rattle.rule_table.specs.declared.kind.Kind.{Kind}
use Rattle.rule_table.specs.declared.kind.Kind.TheVariants as kind
use Rattle.rule_table.specs.declared.place.Place.{Place}
use Rattle.rule_table.specs.declared.place.Place.TheVariants as place
use Rattle.rule_table.specs.declared.place.PlaceRef.{PlaceRef}
use Rattle.rule_table.specs.declared.place.PlaceRef.TheVariants as place_ref
use Rattle.rule_table.specs.declared.row.Cite.{Cite}
use Rattle.rule_table.specs.declared.row.Cite.TheVariants as cite

-- ---- places
abbrev pub feed_of : Place → ℕ
feed_of (place.Head feed slot) = feed
feed_of (place.Entity key path) = key.feed

abbrev pub slot_of : Place → Slot
slot_of (place.Head feed slot) = slot
slot_of (place.Entity key path) = path.slot

-- a header has no lists
abbrev pub index_of : Place → ℕ
index_of (place.Head feed slot) = 0
index_of (place.Entity key path) = path.index

-- a path has the index 0 where no item is on the way
abbrev pub path_at : Slot → ℕ → Path
path_at s i = record { slot = s; index = if has_item (way s) then i else 0 }

-- the cell of the place itself: of the last header, or of the entity
abbrev pub place_ask : Place → Ask
place_ask (place.Head feed slot) = ask.HeadNow slot
place_ask (place.Entity key path) = ask.Cell path

-- the cell of a slot of the place's header or entity
abbrev pub cell_ask : Place → Slot → ℕ → Ask
cell_ask (place.Head feed slot) s i = ask.HeadNow s
cell_ask (place.Entity key path) s i = ask.Cell (path_at s i)

-- the cell of a slot that goes with the place's
abbrev pub beside : (Slot → Slot) → Place → Ask
beside which at = cell_ask at (which (slot_of at)) (index_of at)

-- ---- slots that a row names by the place's
-- the trip_id of the same trip descriptor; for a vehicle's id, of the trip that the vehicle runs
abbrev pub trip_id_of : Slot → Slot
trip_id_of S22 = S21
trip_id_of S23 = S21
trip_id_of S24 = S21
trip_id_of S25 = S21
trip_id_of S26 = S21
trip_id_of S28 = S21
trip_id_of S53 = S52
trip_id_of S54 = S52
trip_id_of S55 = S52
trip_id_of S56 = S52
trip_id_of S57 = S52
trip_id_of S58 = S52
trip_id_of S80 = S79
trip_id_of S81 = S79
trip_id_of S82 = S79
trip_id_of S83 = S79
trip_id_of S84 = S79
trip_id_of s = s

abbrev pub start_time_of : Slot → Slot
start_time_of S21 = S22
start_time_of S52 = S53
start_time_of s = s

abbrev pub start_date_of : Slot → Slot
start_date_of S21 = S23
start_date_of S52 = S54
start_date_of s = s

abbrev pub relationship_of : Slot → Slot
relationship_of S21 = S24
relationship_of S52 = S55
relationship_of S79 = S82
relationship_of s = s

abbrev pub delay_of : Slot → Slot
delay_of S35 = S36
delay_of S38 = S39
delay_of s = s

abbrev pub time_of : Slot → Slot
time_of S35 = S37
time_of S38 = S40
time_of s = s

-- the message in which a field is wanted: the trip update or the vehicle position of its timestamp or vehicle, the trip
-- update, the trip descriptor or the stop time update of its schedule_relationship
abbrev pub holder_of : Slot → Slot
holder_of S24 = S20
holder_of S28 = S20
holder_of S29 = S20
holder_of S34 = S31
holder_of S55 = S51
holder_of S58 = S50
holder_of S59 = S50
holder_of s = s

abbrev pub event_ask : Slot → List ℕ → ℕ → Ask
event_ask S38 trip n = ask.DepartureAt trip n
event_ask _ trip n = ask.ArrivalAt trip n

-- the other kind than that of the message in which a slot lies
abbrev pub other_kind : Slot → Kind
other_kind S52 = kind.TripUpdate
other_kind S58 = kind.TripUpdate
other_kind _ = kind.Vehicle

-- whether the other kind has a trip id, or a vehicle id
abbrev pub id_ask : Slot → List ℕ → Ask
id_ask S21 id = ask.HasTrip kind.Vehicle id
id_ask S52 id = ask.HasTrip kind.TripUpdate id
id_ask S58 id = ask.HasVehicle kind.TripUpdate id
id_ask _ id = ask.HasVehicle kind.Vehicle id

-- ---- cited values by their numbers
-- the value of a fact, missing where there is no such fact
abbrev pub value_at : List CellValue → ℕ → CellValue
value_at vs k = unwrap_or (slice_get vs k) value.Missing

abbrev pub text_in : CellValue → Option (List ℕ)
text_in (value.Text t) = Some t
text_in _ = None

abbrev pub number_in : CellValue → Option ℤ
number_in (value.Number n) = Some n
number_in _ = None

abbrev pub text_at : List CellValue → ℕ → Option (List ℕ)
text_at vs k = text_in (value_at vs k)

abbrev pub number_at : List CellValue → ℕ → Option ℤ
number_at vs k = number_in (value_at vs k)

-- a number that a stop_sequence may be
abbrev pub sequence_of : Option ℤ → Option ℕ
sequence_of None = None
sequence_of (Some (pos n)) = if int_le (pos n) (pos 4294967295) then Some n else None
sequence_of (Some (negsuc n)) = None

abbrev pub sequence_at : List CellValue → ℕ → Option ℕ
sequence_at vs k = sequence_of (number_at vs k)

-- where both keys are there
abbrev pub with_both : {A B : Type 0} → (A → B → Ask) → Option A → Option B → Option Ask
with_both make None b = None
with_both make (Some a) None = None
with_both make (Some a) (Some b) = Some (make a b)

-- the bounds of every answer: -2^63 and 2^64 - 1
abbrev pub in_range : CellValue → Bool
in_range (value.Number z) = int_le (negsuc 9223372036854775807) z && int_le z (pos 18446744073709551615)
in_range _ = true

-- ---- asks
-- what a row's entry asks at a place, after the values that were cited before it; nothing where an id or number that it
-- needs isn't there
abbrev pub ask_at : Place → List CellValue → Cite → Option Ask
ask_at at vs cite.Place = Some (place_ask at)
ask_at at vs (cite.Cell s) = Some (cell_ask at s (index_of at))
ask_at at vs (cite.Before s) = Some (cell_ask at s (index_of at - 1))
ask_at at vs cite.TripId = Some (beside trip_id_of at)
ask_at at vs cite.StartTime = Some (beside start_time_of at)
ask_at at vs cite.StartDate = Some (beside start_date_of at)
ask_at at vs cite.Relationship = Some (beside relationship_of at)
ask_at at vs cite.Delay = Some (beside delay_of at)
ask_at at vs cite.Time = Some (beside time_of at)
ask_at at vs cite.Holder = Some (beside holder_of at)
ask_at at vs (cite.HeadNow s) = Some (ask.HeadNow s)
ask_at at vs (cite.HeadBefore s) = Some (ask.HeadBefore s)
ask_at at vs cite.Moment = Some ask.Moment
ask_at at vs cite.Occurrence = Some ask.Occurrence
ask_at at vs cite.EntitiesChanged = Some ask.EntitiesChanged
ask_at at vs (cite.TripKnown k) = option_map ask.TripKnown (text_at vs k)
ask_at at vs (cite.RouteKnown k) = option_map ask.RouteKnown (text_at vs k)
ask_at at vs (cite.AgencyKnown k) = option_map ask.AgencyKnown (text_at vs k)
ask_at at vs (cite.StopKind k) = option_map ask.StopKind (text_at vs k)
ask_at at vs (cite.TripRoute k) = option_map ask.TripRoute (text_at vs k)
ask_at at vs (cite.TripDirection k) = option_map ask.TripDirection (text_at vs k)
ask_at at vs (cite.TripExact k) = option_map ask.TripExact (text_at vs k)
ask_at at vs (cite.OnGrid j k) = with_both ask.OnGrid (text_at vs j) (text_at vs k)
ask_at at vs (cite.VisitsTwice k) = option_map ask.VisitsTwice (text_at vs k)
ask_at at vs (cite.FirstArrival k) = option_map ask.FirstArrival (text_at vs k)
ask_at at vs (cite.StopAt j k) = with_both ask.StopAt (text_at vs j) (sequence_at vs k)
ask_at at vs (cite.EventAt j k) = with_both (event_ask (slot_of at)) (text_at vs j) (sequence_at vs k)
ask_at at vs (cite.FirstVehicle k) = option_map (ask.FirstVehicle (other_kind (slot_of at))) (text_at vs k)
ask_at at vs (cite.HasPair j k) = with_both (ask.HasPair (other_kind (slot_of at))) (text_at vs j) (text_at vs k)
ask_at at vs cite.AnyRow = Some (ask.AnyRow (other_kind (slot_of at)))
ask_at at vs (cite.HasId k) = option_map (id_ask (slot_of at)) (text_at vs k)
ask_at at vs (cite.FirstId k) = option_map (ask.FirstId (feed_of at)) (text_at vs k)
ask_at at vs (cite.FirstOccurrence k) = option_map (ask.FirstOccurrence (feed_of at)) (text_at vs k)
ask_at at vs (cite.Peak k) = option_map (ask.Peak (feed_of at)) (text_at vs k)

-- ---- what borrowed values say
abbrev pub ask_value : AskRef → Ask
ask_value (borrowed.Cell p) = ask.Cell p
ask_value (borrowed.HeadNow s) = ask.HeadNow s
ask_value (borrowed.HeadBefore s) = ask.HeadBefore s
ask_value borrowed.Moment = ask.Moment
ask_value borrowed.Occurrence = ask.Occurrence
ask_value borrowed.EntitiesChanged = ask.EntitiesChanged
ask_value (borrowed.TripKnown trip) = ask.TripKnown trip.now
ask_value (borrowed.RouteKnown route) = ask.RouteKnown route.now
ask_value (borrowed.AgencyKnown agency) = ask.AgencyKnown agency.now
ask_value (borrowed.StopKind stop) = ask.StopKind stop.now
ask_value (borrowed.TripRoute trip) = ask.TripRoute trip.now
ask_value (borrowed.TripDirection trip) = ask.TripDirection trip.now
ask_value (borrowed.TripExact trip) = ask.TripExact trip.now
ask_value (borrowed.OnGrid trip time) = ask.OnGrid trip.now time.now
ask_value (borrowed.VisitsTwice trip) = ask.VisitsTwice trip.now
ask_value (borrowed.FirstArrival trip) = ask.FirstArrival trip.now
ask_value (borrowed.StopAt trip sequence) = ask.StopAt trip.now sequence
ask_value (borrowed.ArrivalAt trip sequence) = ask.ArrivalAt trip.now sequence
ask_value (borrowed.DepartureAt trip sequence) = ask.DepartureAt trip.now sequence
ask_value (borrowed.FirstVehicle kind trip) = ask.FirstVehicle kind trip.now
ask_value (borrowed.HasPair kind trip vehicle) = ask.HasPair kind trip.now vehicle.now
ask_value (borrowed.AnyRow kind) = ask.AnyRow kind
ask_value (borrowed.HasTrip kind trip) = ask.HasTrip kind trip.now
ask_value (borrowed.HasVehicle kind vehicle) = ask.HasVehicle kind vehicle.now
ask_value (borrowed.FirstId feed vehicle) = ask.FirstId feed vehicle.now
ask_value (borrowed.FirstOccurrence feed vehicle) = ask.FirstOccurrence feed vehicle.now
ask_value (borrowed.Peak feed vehicle) = ask.Peak feed vehicle.now

abbrev pub fact_value : FactRef → Fact
fact_value f = record { ask = ask_value f.ask; value = cell_value f.cell }

abbrev pub place_value : PlaceRef → Place
place_value (place_ref.Head feed slot) = place.Head feed slot
place_value (place_ref.Entity key path) = place.Entity key.now path
