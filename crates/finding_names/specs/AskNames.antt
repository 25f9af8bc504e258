-- Asks by their names. (This profile.)
use Rattle.std.specs.Prelude.{ℕ, List, [], ◌∷◌, bytes_eq, codes, Option, find}
use Rattle.rule_table.specs.declared.ask.Ask.{Ask}
use Rattle.rule_table.specs.declared.ask.Ask.TheVariants as ask
use Rattle.finding_names.specs.declared.ask_name.AskName.{AskName}
use Rattle.finding_names.specs.declared.ask_name.AskName.TheVariants as name

-- the text of a name
abbrev pub name_text : AskName → List ℕ
name_text name.Cell = codes "cell"
name_text name.HeadNow = codes "head_now"
name_text name.HeadBefore = codes "head_before"
name_text name.Moment = codes "moment"
name_text name.Occurrence = codes "occurrence"
name_text name.EntitiesChanged = codes "entities_changed"
name_text name.TripKnown = codes "trip_known"
name_text name.RouteKnown = codes "route_known"
name_text name.AgencyKnown = codes "agency_known"
name_text name.StopKind = codes "stop_kind"
name_text name.TripRoute = codes "trip_route"
name_text name.TripDirection = codes "trip_direction"
name_text name.TripExact = codes "trip_exact"
name_text name.OnGrid = codes "on_grid"
name_text name.VisitsTwice = codes "visits_twice"
name_text name.FirstArrival = codes "first_arrival"
name_text name.StopAt = codes "stop_at"
name_text name.ArrivalAt = codes "arrival_at"
name_text name.DepartureAt = codes "departure_at"
name_text name.FirstVehicle = codes "first_vehicle"
name_text name.HasPair = codes "has_pair"
name_text name.AnyRow = codes "any_row"
name_text name.HasTrip = codes "has_trip"
name_text name.HasVehicle = codes "has_vehicle"
name_text name.FirstId = codes "first_id"
name_text name.FirstOccurrence = codes "first_occurrence"
name_text name.Peak = codes "peak"

abbrev pub all_names : List AskName
all_names = name.Cell ∷ name.HeadNow ∷ name.HeadBefore ∷ name.Moment ∷ name.Occurrence ∷ name.EntitiesChanged ∷ name.TripKnown ∷ name.RouteKnown ∷ name.AgencyKnown ∷ name.StopKind ∷ name.TripRoute ∷ name.TripDirection ∷ name.TripExact ∷ name.OnGrid ∷ name.VisitsTwice ∷ name.FirstArrival ∷ name.StopAt ∷ name.ArrivalAt ∷ name.DepartureAt ∷ name.FirstVehicle ∷ name.HasPair ∷ name.AnyRow ∷ name.HasTrip ∷ name.HasVehicle ∷ name.FirstId ∷ name.FirstOccurrence ∷ name.Peak ∷ []

-- the name of a text
abbrev pub ask_name_of : List ℕ → Option AskName
ask_name_of text = find (λ n. bytes_eq (name_text n) text) all_names

-- the name of an ask
abbrev pub name_of : Ask → AskName
name_of (ask.Cell p) = name.Cell
name_of (ask.HeadNow s) = name.HeadNow
name_of (ask.HeadBefore s) = name.HeadBefore
name_of ask.Moment = name.Moment
name_of ask.Occurrence = name.Occurrence
name_of ask.EntitiesChanged = name.EntitiesChanged
name_of (ask.TripKnown id) = name.TripKnown
name_of (ask.RouteKnown id) = name.RouteKnown
name_of (ask.AgencyKnown id) = name.AgencyKnown
name_of (ask.StopKind id) = name.StopKind
name_of (ask.TripRoute id) = name.TripRoute
name_of (ask.TripDirection id) = name.TripDirection
name_of (ask.TripExact id) = name.TripExact
name_of (ask.OnGrid trip time) = name.OnGrid
name_of (ask.VisitsTwice id) = name.VisitsTwice
name_of (ask.FirstArrival id) = name.FirstArrival
name_of (ask.StopAt trip n) = name.StopAt
name_of (ask.ArrivalAt trip n) = name.ArrivalAt
name_of (ask.DepartureAt trip n) = name.DepartureAt
name_of (ask.FirstVehicle k trip) = name.FirstVehicle
name_of (ask.HasPair k trip vehicle) = name.HasPair
name_of (ask.AnyRow k) = name.AnyRow
name_of (ask.HasTrip k trip) = name.HasTrip
name_of (ask.HasVehicle k vehicle) = name.HasVehicle
name_of (ask.FirstId feed vehicle) = name.FirstId
name_of (ask.FirstOccurrence feed vehicle) = name.FirstOccurrence
name_of (ask.Peak feed vehicle) = name.Peak
