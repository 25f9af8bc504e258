-- The rows of predictions.
-- (GTFS Realtime Reference, "Trip Updates"; the states are this profile's.)
use Rattle.std.specs.Prelude.{◌≡◌, ℕ, ◌+◌, ℤ, ◌+ℤ◌, ◌-ℤ◌, List, [], ◌∷◌, ◌++◌, map, Option, Some, None, option_map, option_and_then, unwrap_or, if◌then◌else◌}
use Rattle.feed_values.specs.declared.stop_time_update.StopTimeUpdate.{StopTimeUpdate}
use Rattle.propagation.specs.Events.{Event, Own}
use Rattle.propagation.specs.Setters.{governing, is_scheduled, last_setter, placed, set_at, is_skipped, stated_delay, stated_time}
use Rattle.propagation.specs.declared.event_kind.EventKind.{EventKind}
use Rattle.propagation.specs.declared.event_kind.EventKind.TheVariants as kind
use Rattle.propagation.specs.declared.outcome.Outcome.{Outcome}
use Rattle.propagation.specs.declared.placed_setter.PlacedSetter.{PlacedSetter}
use Rattle.propagation.specs.declared.prediction_row.PredictionRow.{PredictionRow}
use Rattle.propagation.specs.declared.row_state.RowState.TheVariants as state
use Rattle.propagation.specs.declared.setter.Setter.{Setter}
use Rattle.propagation.specs.declared.source.Source.{Source}
use Rattle.propagation.specs.declared.source.Source.TheVariants as source

-- an event whose time the update of its stop states
abbrev pub at_time : Source → (scheduled stated : Option ℤ) → ℤ → Outcome
at_time by (Some scheduled) stated time = record { predicted = Some time; delay = Some (time -ℤ scheduled); source = by; state = state.Predicted }
at_time by None stated time = record { predicted = Some time; delay = stated; source = by; state = state.Stated }

-- the first two cases: the update of the stop is SKIPPED, or states a time
abbrev pub told : Event → Own → Option Outcome
told e own =
    if is_skipped own.update.schedule_relationship
    then Some (record { predicted = None; delay = None; source = source.Update own.index; state = state.Skipped })
    else (if is_scheduled own.update.schedule_relationship
    then option_map (at_time (source.Update own.index) e.scheduled (stated_delay e.event own.update)) (stated_time e.event own.update)
    else None)

abbrev pub delayed : Source → Option ℤ → ℤ → Outcome
delayed by (Some scheduled) delay = record { predicted = Some (scheduled +ℤ delay); delay = Some delay; source = by; state = state.Predicted }
delayed by None delay = record { predicted = None; delay = Some delay; source = by; state = state.Untimed }

abbrev pub set_delay : Source → Option ℤ → Option ℤ → Outcome
set_delay by scheduled None = record { predicted = None; delay = None; source = by; state = state.NoData }
set_delay by scheduled (Some delay) = delayed by scheduled delay

-- the other three: no setter governs, or one that sets no data, or one that sets a delay
abbrev pub governed : Option ℤ → Option Setter → Outcome
governed scheduled None = record { predicted = None; delay = None; source = source.Blank; state = state.Unknown }
governed scheduled (Some setter) = set_delay setter.source scheduled setter.delay

-- the first of the five that fits
abbrev pub outcome : Event → Option Setter → Outcome
outcome e setter = unwrap_or (option_and_then (told e) e.own) (governed e.scheduled setter)

abbrev pub row_by : Event → Outcome → PredictionRow
row_by e outcome = record {
  stop_sequence = Some e.sequence;
  stop_id = Some e.stop;
  event = e.event;
  scheduled = e.scheduled;
  predicted = outcome.predicted;
  delay = outcome.delay;
  source = outcome.source;
  state = outcome.state;
}

-- the row of an event, by the setter that governs it
abbrev pub event_row : List PlacedSetter → Event → PredictionRow
event_row setters e = row_by e (outcome e (governing setters e.position))

-- the row of an unmatched update
abbrev pub unmatched_row : ℕ → StopTimeUpdate → PredictionRow
unmatched_row k update = record {
  stop_sequence = update.stop_sequence;
  stop_id = update.stop_id;
  event = kind.Update;
  scheduled = None;
  predicted = None;
  delay = None;
  source = source.Update k;
  state = state.Unmatched;
}

-- the rows of the unmatched updates from an index on, with their matches
abbrev pub unmatched_from : ℕ → List StopTimeUpdate → List (Option ℕ) → List PredictionRow
unmatched_from k [] matches = []
unmatched_from k (update ∷ updates) [] = []
unmatched_from k (update ∷ updates) (None ∷ matches) = unmatched_row k update ∷ unmatched_from (k + 1) updates matches
unmatched_from k (update ∷ updates) (Some place ∷ matches) = unmatched_from (k + 1) updates matches

-- the rows of a trip update in scheduled mode
abbrev pub scheduled_rows : List PlacedSetter → List Event → List StopTimeUpdate → List (Option ℕ) → List PredictionRow
scheduled_rows setters events updates matches = map (event_row setters) events ++ unmatched_from 0 updates matches

-- a stated time outside scheduled mode
abbrev pub time_row : ℕ → StopTimeUpdate → EventKind → ℤ → PredictionRow
time_row k update event time = record {
  stop_sequence = update.stop_sequence;
  stop_id = update.stop_id;
  event = event;
  scheduled = None;
  predicted = Some time;
  delay = None;
  source = source.Update k;
  state = state.Stated;
}

abbrev pub one_row : Option PredictionRow → List PredictionRow
one_row None = []
one_row (Some row) = row ∷ []

abbrev pub stated_row : ℕ → StopTimeUpdate → EventKind → List PredictionRow
stated_row k update event = one_row (option_map (time_row k update event) (stated_time event update))

-- the rows of a trip update in stated mode: of each update the stated arrival time, then the stated departure time
abbrev pub stated_from : ℕ → List StopTimeUpdate → List PredictionRow
stated_from k [] = []
stated_from k (update ∷ updates) = stated_row k update kind.Arrival ++ (stated_row k update kind.Departure ++ stated_from (k + 1) updates)

-- the row of a canceled trip update
abbrev pub canceled_row : PredictionRow
canceled_row = record {
  stop_sequence = None;
  stop_id = None;
  event = kind.Trip;
  scheduled = None;
  predicted = None;
  delay = None;
  source = source.Blank;
  state = state.Canceled;
}

-- the two events of a stop are passed: each sets what it sets, and its row goes by the last setter then
pub record ArePassed (setters : List PlacedSetter) (rows : List PredictionRow) (arrival departure : Event)
    (new_setters : List PlacedSetter) (new_rows : List PredictionRow) : Type 0 where
  pub new_setters_are : new_setters ≡ (setters ++ placed arrival.position (set_at arrival)) ++ placed departure.position (set_at departure)
  pub new_rows_are : new_rows ≡ (rows ++ row_by arrival (outcome arrival (last_setter (setters ++ placed arrival.position (set_at arrival)))) ∷ [])
      ++ row_by departure (outcome departure (last_setter new_setters)) ∷ []
