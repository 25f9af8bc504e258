-- The table of stop events: which fields each of its rows has. A row is the text that csv's default writer writes of its fields,
-- with quotes where a field needs them, and ends with a line feed.
-- (RFC 4180; GTFS Schedule Reference, "Field Types", Date; the columns are this profile's.)
use Rattle.std.specs.Prelude.{◌≡◌, ℕ, ℤ, List, [], ◌∷◌, ◌++◌, codes, decimal, flat_map, Option, Some, None, unwrap_or}
use Rattle.std.specs.Fmt.{signed_decimal}
use Rattle.csv.specs.Writing.{default_writer, row_text}
use Rattle.rt_day.specs.Date.{date_of}
use Rattle.feed_values.specs.declared.trip_update.TripUpdate.{TripUpdate}
use Rattle.propagation.specs.Predictions.{day_in, rows_in}
use Rattle.propagation.specs.declared.event_kind.EventKind.{EventKind}
use Rattle.propagation.specs.declared.event_kind.EventKind.TheVariants as event
use Rattle.propagation.specs.declared.prediction_row.PredictionRow.{PredictionRow}
use Rattle.propagation.specs.declared.predictions.Predictions.{Predictions}
use Rattle.propagation.specs.declared.row_state.RowState.{RowState}
use Rattle.propagation.specs.declared.row_state.RowState.TheVariants as state
use Rattle.propagation.specs.declared.source.Source.{Source}
use Rattle.propagation.specs.declared.source.Source.TheVariants as source

-- the names of the columns
abbrev pub head_fields : List (List ℕ)
head_fields =
    codes "entity" ∷ codes "occurrence" ∷ codes "trip_id" ∷ codes "service_day" ∷ codes "stop_sequence" ∷ codes "stop_id" ∷ codes "event"
    ∷ codes "scheduled" ∷ codes "predicted" ∷ codes "delay" ∷ codes "source" ∷ codes "state" ∷ []

abbrev pub head_text : List ℕ
head_text = row_text default_writer head_fields

-- a number as its digits, and nothing where none is said
abbrev pub count_field : Option ℕ → List ℕ
count_field None = []
count_field (Some n) = decimal n

abbrev pub number_field : Option ℤ → List ℕ
number_field None = []
number_field (Some n) = signed_decimal n

abbrev pub event_name : EventKind → List ℕ
event_name event.Arrival = codes "arrival"
event_name event.Departure = codes "departure"
event_name event.Trip = codes "trip"
event_name event.Update = codes "update"

-- an update by its index, which counts from 0
abbrev pub source_field : Source → List ℕ
source_field source.Blank = []
source_field source.Trip = codes "trip"
source_field (source.Update index) = decimal index

abbrev pub state_name : RowState → List ℕ
state_name state.Predicted = codes "predicted"
state_name state.Stated = codes "stated"
state_name state.Skipped = codes "skipped"
state_name state.NoData = codes "no_data"
state_name state.Unknown = codes "unknown"
state_name state.Untimed = codes "untimed"
state_name state.Canceled = codes "canceled"
state_name state.Unmatched = codes "unmatched"

-- the service day as the date YYYYMMDD that is read as it, and nothing outside scheduled mode
abbrev pub IsDayField : Option ℤ → List ℕ → Type 0
IsDayField None field = field ≡ []
IsDayField (Some day) field = date_of field ≡ Some day

-- the fields that all rows of a trip update have
abbrev pub key_fields : (id : List ℕ) (occurrence : ℕ) (trip : Option (List ℕ)) (day : List ℕ) → List (List ℕ)
key_fields id occurrence trip day = id ∷ decimal occurrence ∷ unwrap_or trip [] ∷ day ∷ []

-- and those of one row
abbrev pub event_fields : PredictionRow → List (List ℕ)
event_fields row =
    count_field row.stop_sequence ∷ unwrap_or row.stop_id [] ∷ event_name row.event ∷ number_field row.scheduled ∷ number_field row.predicted
    ∷ number_field row.delay ∷ source_field row.source ∷ state_name row.state ∷ []

abbrev pub prediction_text : (key : List (List ℕ)) → PredictionRow → List ℕ
prediction_text key row = row_text default_writer (key ++ event_fields row)

-- the rows of what is predicted of a trip update of an entity with this id, before which so many entities have that id
pub record AreRows (id : List ℕ) (occurrence : ℕ) (update : TripUpdate) (p : Predictions) (text : List ℕ) : Type 0 where
  pub day : List ℕ
  pub is_day : IsDayField (day_in p) day
  pub rows : text ≡ flat_map (prediction_text (key_fields id occurrence update.trip.trip_id day)) (rows_in p)
