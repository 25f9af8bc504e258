-- Timetables that were read.
use Rattle.std.proofs.Common.{◌≡◌, ◌<◌, inl, inr, ℕ, List, [], ◌∷◌, Bor, Option, Some, None, Ok, IfSome, length, option_map, unwrap_or, sym, ap, ◌∙◌, refl, subst}
use Rattle.std.specs.FinMap.{empty, entries, get, get-empty}
use Rattle.std.specs.List.{IsDistinct}
use Rattle.std.specs.Option.{option_and_then, option_copied}
use Rattle.std.specs.Str.{bytes_eq}
use Rattle.rt_outside.specs.Store.{Contents}
use Rattle.csv_records.specs.Results.{then_with}
use Rattle.schedule_tables.specs.Folders.{IsRead}
use Rattle.schedule_tables.specs.Laws.{FollowsRows}
use Rattle.schedule_tables.specs.Maps.{ByText, Text}
use Rattle.timetable.specs.Lookups.{IsServiceOf, tables_from_held, tables_held, tables_in, trip_row, trips_in}
use Rattle.schedule_tables.specs.Numbers.{HasNumber}
use Rattle.csv_records.specs.Records.{Record, records_of}
use Rattle.schedule_tables.specs.Stops.{HaveStops, HoldsVisits, StopTable, visit_key, visits}
use Rattle.schedule_tables.specs.Tables.{table_in, table_of_records, without_mark}
use Rattle.schedule_tables.specs.Times.{BySequence, keyed}
use Rattle.timetable.specs.Timetables.{Loaded, Tables, loaded_from, no_tables, tables_from, tables_of, trip_times}
use Rattle.schedule_rows.specs.declared.trip.Trip.{Trip}
use Rattle.schedule_rows.specs.declared.visit.Visit.{Visit}
use Rattle.schedule_rows.specs.declared.row.Row.{Row}
use Rattle.schedule_tables.specs.declared.stop_time.StopTime.{StopTime}
use Rattle.timetable.specs.declared.timetable.HeldTables.{HeldTables}
use Rattle.timetable.specs.declared.timetable.ServiceNo.{ServiceNo}
use Rattle.timetable.specs.declared.timetable.Timetable.{Timetable}
use Rattle.schedule_tables.proofs.LawLemmas.{follows_rows}
use Rattle.schedule_tables.proofs.SequenceLemmas.{entries-empty}
use Rattle.schedule_tables.proofs.VisitLemmas.{keeps_visits}

law : FollowsRows visits visit_key.same HoldsVisits
law = follows_rows visits visit_key.same HoldsVisits keeps_visits

-- stop times that were read are those of rows
pub rows_of_read : (bytes : List ℕ) (table : StopTable) → table_in visits bytes ≡ Ok table → (rows : List (Row Visit)) × HoldsVisits table rows
rows_of_read bytes table read = by (records_of (without_mark bytes)) read
  where
    by : (records : List Record) → table_of_records visits records ≡ Ok table → (rows : List (Row Visit)) × HoldsVisits table rows
    by [] e = let a = law.accepted [] [] table e in (a.rows, a.says)
    by (header ∷ records) e = let a = law.accepted header records table e in (a.rows, a.says)

-- and have stops
pub stops_of_read : (table : StopTable) → IsRead visits table → HaveStops table
stops_of_read table (inl e) = cc e
stops_of_read table (inr read) = let held = rows_of_read read.0 table read.1 in let says = held.1 in says.stops

-- of which none has two numbers
pub stops_differ_of_read : (table : StopTable) → IsRead visits table → IsDistinct bytes_eq table.stops
stops_differ_of_read table (inl e) = cc e
stops_differ_of_read table (inr read) = let held = rows_of_read read.0 table read.1 in let says = held.1 in says.distinct

pub tables_of_loaded : (folder : List ℕ) (loaded : Loaded) (told : Option Contents) → IfSome told (λ contents. loaded_from folder contents ≡ Ok loaded)
    → IfSome told (λ contents. tables_of folder contents ≡ Ok (tables_from loaded))
tables_of_loaded folder loaded None h = tt
tables_of_loaded folder loaded (Some contents) h = ap (λ r. then_with r (λ l. Ok (tables_from l))) h

-- a timetable that was not given has no row under any id
pub no_row : {G : Type 0} (timetable : Timetable) (table : Tables → ByText G) (id : Text) → timetable.tables ≡ None → table no_tables ≡ empty → None ≡ get (table (tables_in timetable)) id
no_row timetable table id none is = sym (ap (λ tables. get (table (tables_in (record { tables = tables }))) id) none ∙ ap (λ m. get m id) is ∙ get-empty _ id)

-- none of the stops of a timetable has two numbers
pub stops_differ_in : (timetable : Timetable) → IsDistinct bytes_eq (tables_in timetable).stop_times.stops
unfolding IsDistinct
stops_differ_in timetable = by (tables_held timetable)
  where
    by : (held : Option HeldTables) → IsDistinct bytes_eq (unwrap_or (option_map tables_from_held held) no_tables).stop_times.stops
    by None = tt
    by (Some held) = held.stops_differ

-- the tables of one that was given are those that it holds
pub tables_of_held : (timetable : Timetable) (held : HeldTables) → tables_held timetable ≡ Some held → tables_from_held held ≡ tables_in timetable
tables_of_held timetable held is = sym (ap (λ o. unwrap_or (option_map tables_from_held o) no_tables) is)

-- and so are its trips
pub trips_of_held : (timetable : Timetable) (held : HeldTables) → tables_held timetable ≡ Some held → held.trips ≡ trips_in timetable
trips_of_held timetable held is = sym (ap (λ o. unwrap_or (option_map (λ h. h.trips) o) []) is)

-- a stop time that is held has a stop
pub has_stop : (table : StopTable) → HaveStops table → (id : Text) (trip : BySequence) (sequence : ℕ) (time : StopTime) → Some trip ≡ get table.times id → get trip sequence ≡ Some time
    → time.stop < length table.stops
has_stop table have id trip sequence time held at = have id sequence time (ap (option_and_then (λ t. get t sequence)) (sym held) ∙ at)

-- and so has each one of the stop times that a look-up answers
pub found_stops : (table : StopTable) → HaveStops table → (id : Text) (found : Option (Bor BySequence)) → option_copied found ≡ get table.times id
    → IfSome found (λ times. (sequence : ℕ) → IfSome (get times.now sequence) (λ time. time.stop < length table.stops))
found_stops table have id None held = tt
found_stops table have id (Some times) held = λ sequence. each sequence (get times.now sequence) refl
  where
    each : (sequence : ℕ) (time : Option StopTime) → get times.now sequence ≡ time → IfSome time (λ t. t.stop < length table.stops)
    each sequence None at = tt
    each sequence (Some time) at = has_stop table have id times.now sequence time held at

-- a stop time that is lent has what it has
pub lent : (P : StopTime → Type 0) (time : Option (Bor StopTime)) (held : Option StopTime) → option_copied time ≡ held → IfSome held P → IfSome time (λ t. P t.now)
lent P None held is h = tt
lent P (Some time) held is h = subst (λ o. IfSome o P) (sym is) h

-- a trip that the file names nowhere has no stop times
pub no_times : (table : StopTable) (id : Text) → None ≡ get table.times id → keyed [] ≡ entries (trip_times table id)
no_times table id none = sym entries-empty ∙ ap (λ o. entries (unwrap_or o empty)) none

-- a number has one id
pub one_id : {G : Type 0} (entries : List (Text × G)) (n : ℕ) (p q : Text) → HasNumber entries n p → HasNumber entries n q → p ≡ q
one_id entries n p q hp hq = ap (λ o. unwrap_or o []) (sym hp ∙ hq)

-- the service of a trip's row
pub service_named : (timetable : Timetable) (service : ServiceNo) (id : Text) (row : Option Trip) → HasNumber (trips_in timetable) service.trip id → trip_row timetable id ≡ row
    → IfSome row (λ r. IsServiceOf timetable service r.service)
service_named timetable service id None number is = tt
service_named timetable service id (Some r) number is = record { trip = id; number = number; row = ap (option_map (λ x. x.service)) is }
