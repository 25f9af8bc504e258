use Rattle.std.proofs.Common.{ap, ◌∙◌, subst, option_map, IfOk}
use Rattle.std.specs.FinMap.{get}
use Rattle.std.specs.Option.{option_and_then}
use Rattle.rt_day.specs.Time.{time_of}
use Rattle.timetable.specs.declared.Trip.{Trip}
use Rattle.timetable.specs.Lookups.{tables_in}
use Rattle.trip_calendar.specs.ServiceDays.{IsDated, IsNearest}
use Rattle.trip_calendar.specs.Zones.{zone_of}
use Rattle.trip_calendar.proofs.DayLemmas.{dated_row, nearest_row, if_some, first_run-by}
use Rattle.trip_calendar.proofs.service_days.day_of_trip.Goals as goal

pub returns-in-Some : goal.returns-in-Some
returns-in-Some c = λ id is some.
    dated_row (tables_in c.args.table.now) (zone_of c.args.zone.now) c.args.descriptor.now c.args.moment id (get (tables_in c.args.table.now).trips id) c.in-Some.date
    (option_map (λ day. day.number) c.dated.result) some c.in-Some.is (subst (λ text. IsDated text (option_map (λ day. day.number) c.dated.result)) c.as_str.ensures c.dated.ensures)

pub returns-in-None : goal.returns-in-None
returns-in-None c = λ id is some.
    let t = tables_in c.args.table.now in
    let time = c.first_run-time.ensures
    ∙ first_run-by t id c.args.descriptor.now.start_time c.frequencies.result.now c.start_time-start.result c.first_time.result
    (c.frequencies.ensures id is) (c.start_time-start.ensures ∙ ap (option_and_then time_of) c.as_ref.ensures.value) (c.first_time.ensures id is) in
    nearest_row t (zone_of c.args.zone.now) c.args.descriptor.now c.args.moment id (get t.trips id) c.nearest.result some c.in-None.is
    (if_some {A = Trip} _ _ _ (λ row service. subst (λ o. IfOk c.nearest.result (λ found.
    IsNearest t (zone_of c.args.zone.now) row.service c.args.moment o (option_map (λ day. day.number) found))) time (c.nearest.ensures row.service service))
    (c.service_of.ensures.service id is))
