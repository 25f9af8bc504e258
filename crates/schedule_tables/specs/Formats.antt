-- The files whose tables go by one id.
use Rattle.std.specs.Prelude.{ℕ, List, [], ◌∷◌, ◌++◌, Bool, true, Option, Some, None, Result, refl}
use Rattle.std.specs.Coded.{Coded, code_by, coded×, coded_list, coded_option, coded_ℕ}
use Rattle.std.specs.FinMap.{code, empty, get}
use Rattle.std.specs.Ordering.{int_eq}
use Rattle.schedule_rows.specs.Cells.{Cells}
use Rattle.schedule_tables.specs.Groups.{ByDay, exceptions}
use Rattle.schedule_rows.specs.Items.{agency_row, exception_row, frequency_row, route_row, service_row, stop_row, trip_row}
use Rattle.schedule_tables.specs.Laws.{Keys}
use Rattle.schedule_tables.specs.Maps.{ByText, Grouping, Text, put_under}
use Rattle.schedule_tables.specs.Tables.{Format}
use Rattle.schedule_rows.specs.declared.cell_fault.CellFault.{CellFault}
use Rattle.schedule_rows.specs.declared.file.File.{File}
use Rattle.schedule_rows.specs.declared.file.File.TheVariants as file
use Rattle.schedule_tables.specs.declared.grouped.Only.{Only}
use Rattle.schedule_rows.specs.declared.agency.Agency.{Agency}
use Rattle.schedule_rows.specs.declared.exception.Exception.{Exception}
use Rattle.schedule_rows.specs.declared.frequency.Frequency.{Frequency}
use Rattle.schedule_rows.specs.declared.route.Route.{Route}
use Rattle.schedule_rows.specs.declared.service_row.ServiceRow.{ServiceRow}
use Rattle.schedule_rows.specs.declared.stop.Stop.{Stop}
use Rattle.schedule_rows.specs.declared.trip.Trip.{Trip}
use Rattle.schedule_rows.specs.declared.row.Row.{Row}

-- a file whose rows are put under their ids
abbrev pub by_id : {I G : Type 0} → File → (Cells → Result (Row I) CellFault) → Grouping I G → Format (Row I) (ByText G)
by_id source row_of grouping = record { file = source; row_of = row_of; empty = empty; added = λ groups row. put_under grouping groups row.id row.item }

-- an id has one row
abbrev pub only : {I : Type 0} → Grouping I (Only I)
only = record { first = λ item. record { item = item }; more = λ _ _. None }

abbrev pub only_key : {I : Type 0} → Keys I (Only I) I
only_key = record { same = λ _ _. true; record_of = λ item. item; held = λ only _. Some only.item }

-- an id may have any rows, in the order of the file
abbrev pub listing : {I : Type 0} → Grouping I (List I)
listing = record { first = λ item. item ∷ []; more = λ items item. Some (items ++ item ∷ []) }

-- a service has one exception on each day
abbrev pub day_key : Keys Exception ByDay Bool
day_key = record { same = λ a b. int_eq a.day.number b.day.number; record_of = λ item. item.added; held = λ days item. get days item.day.number }

abbrev pub agencies : Format (Row Agency) (ByText (Only Agency))
agencies = by_id file.Agency agency_row only

abbrev pub stops : Format (Row Stop) (ByText (Only Stop))
stops = by_id file.Stops stop_row only

abbrev pub routes : Format (Row Route) (ByText (Only Route))
routes = by_id file.Routes route_row only

-- the trips by id
abbrev pub ByTrip : Type 0
ByTrip = ByText (Only Trip)

-- trips as pairs of texts and a number
abbrev pub by_trip_code : Coded ByTrip
by_trip_code =
    code (coded_list coded_ℕ) (code_by ((Text × Text) × Option ℕ) (coded× (coded× (coded_list coded_ℕ) (coded_list coded_ℕ)) (coded_option coded_ℕ))
    (λ only. ((only.item.route, only.item.service), only.item.direction))
    (λ p. record { item = record { route = p.0.0; service = p.0.1; direction = p.1 } }) (λ _. refl))

abbrev pub trips : Format (Row Trip) (ByText (Only Trip))
trips = by_id file.Trips trip_row only

abbrev pub services : Format (Row ServiceRow) (ByText (Only ServiceRow))
services = by_id file.Calendar service_row only

abbrev pub dates : Format (Row Exception) (ByText ByDay)
dates = by_id file.CalendarDates exception_row exceptions

abbrev pub departures : Format (Row Frequency) (ByText (List Frequency))
departures = by_id file.Frequencies frequency_row listing
