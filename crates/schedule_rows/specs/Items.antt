-- The rows of each file: GTFS Schedule Reference, "Field Definitions". Each column is read in the file's order.
use Rattle.std.specs.Prelude.{ℕ, ◌+◌, ◌*◌, List, [], ◌∷◌, Bool, false, Option, Some, None, Result, Ok, if◌then◌else◌}
use Rattle.schedule_rows.specs.Cells.{Cells, any_text, cell, filled, optional}
use Rattle.csv_records.specs.Results.{then_with}
use Rattle.rt_day.specs.Time.{time_of}
use Rattle.schedule_rows.specs.Values.{calendar_day, change_of, flag_of, headway_of, location_type_of, sequence_of}
use Rattle.schedule_rows.specs.declared.column.Column.{Column}
use Rattle.schedule_rows.specs.declared.column.Column.TheVariants as col
use Rattle.schedule_rows.specs.declared.cell_fault.CellFault.{CellFault}
use Rattle.schedule_rows.specs.declared.agency.Agency.{Agency}
use Rattle.schedule_rows.specs.declared.exception.Exception.{Exception}
use Rattle.schedule_rows.specs.declared.frequency.Frequency.{Frequency}
use Rattle.schedule_rows.specs.declared.route.Route.{Route}
use Rattle.schedule_rows.specs.declared.service_row.ServiceRow.{ServiceRow}
use Rattle.schedule_rows.specs.declared.stop.Stop.{Stop}
use Rattle.schedule_rows.specs.declared.trip.Trip.{Trip}
use Rattle.schedule_rows.specs.declared.visit.Visit.{Visit}
use Rattle.schedule_rows.specs.declared.row.Row.{Row}
use Rattle.schedule_rows.specs.declared.flag.Flag.{Flag}
use Rattle.schedule_rows.specs.declared.location_type.LocationType.{LocationType}

-- agency.txt: the id may be blank
abbrev pub agency_row : Cells → Result (Row Agency) CellFault
agency_row cells =
    then_with (cell any_text col.AgencyId cells) (λ id.
    Ok (record { id = id; item = record {} }))

-- a kind that isn't given is 0
abbrev pub kind_of : Option LocationType → ℕ
kind_of None = 0
kind_of (Some kind) = kind.0

-- stops.txt
abbrev pub stop_row : Cells → Result (Row Stop) CellFault
stop_row cells =
    then_with (cell filled col.StopId cells) (λ id.
    then_with (cell (optional location_type_of) col.LocationType cells) (λ kind.
    Ok (record { id = id; item = record { kind = kind_of kind } })))

-- routes.txt
abbrev pub route_row : Cells → Result (Row Route) CellFault
route_row cells =
    then_with (cell filled col.RouteId cells) (λ id.
    Ok (record { id = id; item = record {} }))

-- a direction that is given is 0 or 1
abbrev pub direction_of : Option Flag → Option ℕ
direction_of None = None
direction_of (Some flag) = Some (if flag.0 then 1 else 0)

-- trips.txt: route id and service id may be blank
abbrev pub trip_row : Cells → Result (Row Trip) CellFault
trip_row cells =
    then_with (cell any_text col.RouteId cells) (λ route.
    then_with (cell any_text col.ServiceId cells) (λ service.
    then_with (cell filled col.TripId cells) (λ id.
    then_with (cell (optional flag_of) col.DirectionId cells) (λ direction.
    Ok (record { id = id; item = record { route = route; service = service; direction = direction_of direction } })))))

-- stop_times.txt: trip id and stop id may be blank
abbrev pub visit_row : Cells → Result (Row Visit) CellFault
visit_row cells =
    then_with (cell any_text col.TripId cells) (λ id.
    then_with (cell (optional time_of) col.ArrivalTime cells) (λ arrival.
    then_with (cell (optional time_of) col.DepartureTime cells) (λ departure.
    then_with (cell any_text col.StopId cells) (λ stop.
    then_with (cell sequence_of col.StopSequence cells) (λ sequence.
    Ok (record { id = id; item = record { stop = stop; sequence = sequence.0; arrival = arrival; departure = departure } }))))))

-- the bits so far, with the next one where a service runs on its day
abbrev pub with_bit : (done bit : ℕ) → Bool → ℕ
with_bit done bit runs = if runs then done + bit else done

-- the bits of the weekdays that are 1, the first of which is `bit`, beside those so far
abbrev pub weekdays_from : List Column → (bit done : ℕ) → Cells → Result ℕ CellFault
weekdays_from [] bit done cells = Ok done
weekdays_from (day ∷ days) bit done cells =
    then_with (cell flag_of day cells) (λ runs. weekdays_from days (bit * 2) (with_bit done bit runs.0) cells)

-- the columns of the weekdays in the order of the week, so that Monday is bit 0 and Sunday bit 6
abbrev pub weekdays : List Column
weekdays = col.Monday ∷ col.Tuesday ∷ col.Wednesday ∷ col.Thursday ∷ col.Friday ∷ col.Saturday ∷ col.Sunday ∷ []

-- calendar.txt
abbrev pub service_row : Cells → Result (Row ServiceRow) CellFault
service_row cells =
    then_with (cell filled col.ServiceId cells) (λ id.
    then_with (weekdays_from weekdays 1 0 cells) (λ days.
    then_with (cell calendar_day col.StartDate cells) (λ first.
    then_with (cell calendar_day col.EndDate cells) (λ last.
    Ok (record { id = id; item = record { weekdays = days; first = first; last = last } })))))

-- calendar_dates.txt: the service id may be blank
abbrev pub exception_row : Cells → Result (Row Exception) CellFault
exception_row cells =
    then_with (cell any_text col.ServiceId cells) (λ id.
    then_with (cell calendar_day col.Date cells) (λ day.
    then_with (cell change_of col.ExceptionType cells) (λ change.
    Ok (record { id = id; item = record { day = day; added = change.0 } }))))

-- a flag that isn't given is 0
abbrev pub flag_or_0 : Option Flag → Bool
flag_or_0 None = false
flag_or_0 (Some flag) = flag.0

-- frequencies.txt: the trip id may be blank
abbrev pub frequency_row : Cells → Result (Row Frequency) CellFault
frequency_row cells =
    then_with (cell any_text col.TripId cells) (λ id.
    then_with (cell time_of col.StartTime cells) (λ start.
    then_with (cell time_of col.EndTime cells) (λ end.
    then_with (cell headway_of col.HeadwaySecs cells) (λ headway.
    then_with (cell (optional flag_of) col.ExactTimes cells) (λ exact.
    Ok (record { id = id; item = record { start = start; end = end; headway = headway.0; exact = flag_or_0 exact } }))))))
