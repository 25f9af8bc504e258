-- The lines of findings, as JSON values. (JSON lines: each is the compact text of an object, its keys in byte order, and a line
-- feed. This profile.)
use Rattle.std.specs.Prelude.{ℕ, List, [], ◌∷◌, map, codes, decimal}
use Rattle.serde_json.specs.Data.{Data, null, number, string, array, object, member, no_members}
use Rattle.serde_json.specs.Find.{of_integer}
use Rattle.serde_json.specs.View.{items_of}
use Rattle.feed_values.specs.declared.cell_value.CellValue.{CellValue}
use Rattle.feed_values.specs.declared.cell_value.CellValue.TheVariants as value
use Rattle.feed_values.specs.Cells.{path_text}
use Rattle.rule_table.specs.declared.ask.Ask.{Ask}
use Rattle.rule_table.specs.declared.ask.Ask.TheVariants as ask
use Rattle.rule_table.specs.declared.kind.Kind.{Kind}
use Rattle.rule_table.specs.declared.kind.Kind.TheVariants as kind
use Rattle.rule_table.specs.declared.fact.Fact.{Fact}
use Rattle.rule_table.specs.declared.place.Place.{Place}
use Rattle.rule_table.specs.declared.place.Place.TheVariants as place
use Rattle.rule_table.specs.declared.rule.RuleId.{RuleId}
use Rattle.rule_table.specs.Found.{Found}
use Rattle.rule_table.specs.Rules.{rule_name, level}
use Rattle.snapshot_lines.specs.Lines.{count}
use Rattle.rt_report.specs.declared.finding.LineKind.{LineKind}
use Rattle.rt_report.specs.declared.finding.LineKind.TheVariants as line

-- ---- a finding
abbrev pub kind_name : Kind → List ℕ
kind_name kind.TripUpdate = codes "trip_update"
kind_name kind.Vehicle = codes "vehicle"

-- an ask by its name
abbrev pub ask_name : Ask → List ℕ
ask_name (ask.Cell p) = codes "cell"
ask_name (ask.HeadNow s) = codes "head_now"
ask_name (ask.HeadBefore s) = codes "head_before"
ask_name ask.Moment = codes "moment"
ask_name ask.Occurrence = codes "occurrence"
ask_name ask.EntitiesChanged = codes "entities_changed"
ask_name (ask.TripKnown trip) = codes "trip_known"
ask_name (ask.RouteKnown route) = codes "route_known"
ask_name (ask.AgencyKnown agency) = codes "agency_known"
ask_name (ask.StopKind stop) = codes "stop_kind"
ask_name (ask.TripRoute trip) = codes "trip_route"
ask_name (ask.TripDirection trip) = codes "trip_direction"
ask_name (ask.TripExact trip) = codes "trip_exact"
ask_name (ask.OnGrid trip time) = codes "on_grid"
ask_name (ask.VisitsTwice trip) = codes "visits_twice"
ask_name (ask.FirstArrival trip) = codes "first_arrival"
ask_name (ask.StopAt trip n) = codes "stop_at"
ask_name (ask.ArrivalAt trip n) = codes "arrival_at"
ask_name (ask.DepartureAt trip n) = codes "departure_at"
ask_name (ask.FirstVehicle k trip) = codes "first_vehicle"
ask_name (ask.HasPair k trip vehicle) = codes "has_pair"
ask_name (ask.AnyRow k) = codes "any_row"
ask_name (ask.HasTrip k trip) = codes "has_trip"
ask_name (ask.HasVehicle k vehicle) = codes "has_vehicle"
ask_name (ask.FirstId feed vehicle) = codes "first_id"
ask_name (ask.FirstOccurrence feed vehicle) = codes "first_occurrence"
ask_name (ask.Peak feed vehicle) = codes "peak"

-- its keys as texts: paths as they are printed, numbers in decimal
abbrev pub ask_keys : Ask → List (List ℕ)
ask_keys (ask.Cell p) = path_text p.slot p.index ∷ []
ask_keys (ask.HeadNow s) = path_text s 0 ∷ []
ask_keys (ask.HeadBefore s) = path_text s 0 ∷ []
ask_keys ask.Moment = []
ask_keys ask.Occurrence = []
ask_keys ask.EntitiesChanged = []
ask_keys (ask.TripKnown trip) = trip ∷ []
ask_keys (ask.RouteKnown route) = route ∷ []
ask_keys (ask.AgencyKnown agency) = agency ∷ []
ask_keys (ask.StopKind stop) = stop ∷ []
ask_keys (ask.TripRoute trip) = trip ∷ []
ask_keys (ask.TripDirection trip) = trip ∷ []
ask_keys (ask.TripExact trip) = trip ∷ []
ask_keys (ask.OnGrid trip time) = trip ∷ time ∷ []
ask_keys (ask.VisitsTwice trip) = trip ∷ []
ask_keys (ask.FirstArrival trip) = trip ∷ []
ask_keys (ask.StopAt trip n) = trip ∷ decimal n ∷ []
ask_keys (ask.ArrivalAt trip n) = trip ∷ decimal n ∷ []
ask_keys (ask.DepartureAt trip n) = trip ∷ decimal n ∷ []
ask_keys (ask.FirstVehicle k trip) = kind_name k ∷ trip ∷ []
ask_keys (ask.HasPair k trip vehicle) = kind_name k ∷ trip ∷ vehicle ∷ []
ask_keys (ask.AnyRow k) = kind_name k ∷ []
ask_keys (ask.HasTrip k trip) = kind_name k ∷ trip ∷ []
ask_keys (ask.HasVehicle k vehicle) = kind_name k ∷ vehicle ∷ []
ask_keys (ask.FirstId feed vehicle) = decimal feed ∷ vehicle ∷ []
ask_keys (ask.FirstOccurrence feed vehicle) = decimal feed ∷ vehicle ∷ []
ask_keys (ask.Peak feed vehicle) = decimal feed ∷ vehicle ∷ []

abbrev pub cell_data : CellValue → Data
cell_data value.Missing = null
cell_data (value.Number z) = number (of_integer z)
cell_data (value.Text text) = string text

abbrev pub texts_data : List (List ℕ) → Data
texts_data texts = array (items_of (map string texts))

abbrev pub fact_data : Fact → Data
fact_data fact = object
    (member (codes "ask") (string (ask_name fact.ask))
    (member (codes "keys") (texts_data (ask_keys fact.ask))
    (member (codes "value") (cell_data fact.value) no_members)))

abbrev pub facts_data : List Fact → Data
facts_data facts = array (items_of (map fact_data facts))

abbrev pub line_name : LineKind → List ℕ
line_name line.Finding = codes "finding"
line_name line.Opened = codes "opened"

-- the keys of a finding at an entity
abbrev pub entity_finding : Data → ℕ → List ℕ → List ℕ → List ℕ → ℕ → List ℕ → List ℕ → ℕ → Data
entity_finding facts feed id weight name occurrence path rule since = object
    (member (codes "facts") facts
    (member (codes "feed") (count feed)
    (member (codes "id") (string id)
    (member (codes "level") (string weight)
    (member (codes "line") (string name)
    (member (codes "occurrence") (count occurrence)
    (member (codes "path") (string path)
    (member (codes "rule") (string rule)
    (member (codes "since") (count since) no_members)))))))))

-- a finding and since when its rule stands at its place; a place on a header has no id and no occurrence
abbrev pub finding_at : LineKind → Found → ℕ → Place → Data
finding_at kind f since (place.Head feed slot) = object
    (member (codes "facts") (facts_data f.facts)
    (member (codes "feed") (count feed)
    (member (codes "level") (string (level f.rule))
    (member (codes "line") (string (line_name kind))
    (member (codes "path") (string (path_text slot 0))
    (member (codes "rule") (string (rule_name f.rule))
    (member (codes "since") (count since) no_members)))))))
finding_at kind f since (place.Entity key path) =
    entity_finding (facts_data f.facts) key.feed key.id (level f.rule) (line_name kind) key.occurrence (path_text path.slot path.index) (rule_name f.rule) since

abbrev pub finding_data : LineKind → Found → ℕ → Data
finding_data kind f since = finding_at kind f since f.place

-- ---- a rule that stands no more at a place
abbrev pub head_closed : ℕ → List ℕ → List ℕ → Data
head_closed feed path rule = object
    (member (codes "feed") (count feed)
    (member (codes "line") (string (codes "closed"))
    (member (codes "path") (string path)
    (member (codes "rule") (string rule) no_members))))

abbrev pub entity_closed : ℕ → List ℕ → ℕ → List ℕ → List ℕ → Data
entity_closed feed id occurrence path rule = object
    (member (codes "feed") (count feed)
    (member (codes "id") (string id)
    (member (codes "line") (string (codes "closed"))
    (member (codes "occurrence") (count occurrence)
    (member (codes "path") (string path)
    (member (codes "rule") (string rule) no_members))))))

-- a place on a header has no id and no occurrence
abbrev pub closed_data : RuleId → Place → Data
closed_data rule (place.Head feed slot) = head_closed feed (path_text slot 0) (rule_name rule)
closed_data rule (place.Entity key path) = entity_closed key.feed key.id key.occurrence (path_text path.slot path.index) (rule_name rule)
