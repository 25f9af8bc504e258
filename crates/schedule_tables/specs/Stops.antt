-- Stop times with the numbers of their stops.
use Rattle.std.specs.Prelude.{◌≡◌, ◌<◌, ℕ, List, [], ◌∷◌, ◌++◌, length, ◌&&◌, ◌==◌, Option, Some, option_and_then, option_map, slice_get, unwrap_or, if◌then◌else◌, refl}
use Rattle.std.specs.List.{IsDistinct, list_any, position_or_len}
use Rattle.std.specs.Str.{bytes_eq}
use Rattle.std.specs.Coded.{Coded, code_by, coded×, coded_list, coded_ℕ}
use Rattle.std.specs.FinMap.{code, empty, get}
use Rattle.schedule_rows.specs.Items.{visit_row}
use Rattle.schedule_tables.specs.Laws.{HoldsEach, Keys}
use Rattle.schedule_tables.specs.Maps.{ByText, Text, put_under}
use Rattle.schedule_tables.specs.Tables.{Format}
use Rattle.schedule_tables.specs.Times.{BySequence, sequences, stop_time_code}
use Rattle.schedule_rows.specs.declared.file.File.TheVariants as file
use Rattle.schedule_rows.specs.declared.visit.Visit.{Visit}
use Rattle.schedule_rows.specs.declared.row.Row.{Row}
use Rattle.schedule_tables.specs.declared.stop_time.StopTime.{StopTime}

-- ids in the order of their numbers, with an id that is put at the end if it is new
abbrev pub ids_with : List Text → Text → List Text
ids_with ids id = if list_any (bytes_eq id) ids then ids else ids ++ id ∷ []

-- the number of an id: its place, or the one that a new id gets
abbrev pub number_in : List Text → Text → ℕ
number_in ids id = position_or_len (bytes_eq id) ids

-- the stop ids of the stop times in the order of their numbers, and the stop times by trip and sequence
pub record StopTable : Type 0 where
  pub stops : List Text
  pub times : ByText BySequence

abbrev pub stop_table_code : Coded StopTable
stop_table_code =
    code_by (List Text × ByText BySequence) (coded× (coded_list (coded_list coded_ℕ)) (code (coded_list coded_ℕ) (code coded_ℕ stop_time_code)))
    (λ table. (table.stops, table.times)) (λ p. record { stops = p.0; times = p.1 }) (λ _. refl)

abbrev pub stop_time_of : Visit → ℕ → StopTime
stop_time_of visit stop = record { sequence = visit.sequence; stop = stop; arrival = visit.arrival; departure = visit.departure }

-- the table with one more row, if its trip had no row of its sequence
abbrev pub visit_added : StopTable → Row Visit → Option StopTable
visit_added table row =
    option_map (λ times. record { stops = ids_with table.stops row.item.stop; times = times })
    (put_under sequences table.times row.id (stop_time_of row.item (number_in table.stops row.item.stop)))

abbrev pub visits : Format (Row Visit) StopTable
visits = record { file = file.StopTimes; row_of = visit_row; empty = record { stops = []; times = empty }; added = visit_added }

-- the stop time of a trip at a sequence
abbrev pub stop_time_at : ByText BySequence → Text → ℕ → Option StopTime
stop_time_at times id sequence = option_and_then (λ trip. get trip sequence) (get times id)

-- each stop time has the number of a stop
abbrev pub HaveStops : StopTable → Type 0
HaveStops table = (id : Text) (sequence : ℕ) (time : StopTime) → stop_time_at table.times id sequence ≡ Some time → time.stop < length table.stops

-- a stop time with its stop's id
abbrev pub visit_of : List Text → StopTime → Visit
visit_of stops time = record { stop = unwrap_or (slice_get stops time.stop) []; sequence = time.sequence; arrival = time.arrival; departure = time.departure }

-- a trip has one row of each sequence, and the table holds it with its stop's id
abbrev pub visit_key : Keys (Row Visit) StopTable Visit
visit_key = record {
  same = λ a b. bytes_eq a.id b.id && (a.item.sequence == b.item.sequence);
  record_of = λ row. row.item;
  held = λ table row. option_map (visit_of table.stops) (stop_time_at table.times row.id row.item.sequence);
}

-- the table holds each row, no stop time without a stop, and no stop id twice
pub record HoldsVisits (table : StopTable) (rows : List (Row Visit)) : Type 0 where
  pub held : HoldsEach visit_key table rows
  pub stops : HaveStops table
  pub distinct : IsDistinct bytes_eq table.stops
