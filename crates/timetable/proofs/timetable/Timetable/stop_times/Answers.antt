use Rattle.std.proofs.Common.{All, ap, length, subst, sym, ◌<◌, ◌∙◌}
use Rattle.std.specs.FinMap.{entries}
use Rattle.schedule_tables.specs.Numbers.{HasNumber}
use Rattle.timetable.specs.Timetables.{trip_times}
use Rattle.timetable.proofs.TimetableLemmas.{has_stop, no_times, one_id, tables_of_held, trips_of_held}
use Rattle.timetable.proofs.timetable.Timetable.stop_times.Goals as goal

pub returns-in-Some-clause-stops : goal.returns-in-Some-clause-stops
returns-in-Some-clause-stops c =
    let held = c.held-held.result.now in
    subst (λ tables. All (λ time. time.stop < length tables.stop_times.stops) c.as_slice.result.now) (tables_of_held c.args.self.now held c.held-held.ensures)
    (λ k d within. has_stop held.stop_times held.have_stops c.id.result.now c.in-Some.times.now _ _ c.in-Some.ensures (c.as_slice.ensures.held k d within))

pub returns-in-None-clause-times : goal.returns-in-None-clause-times
returns-in-None-clause-times c = λ id number.
    let held = c.held-held.result.now in
    let its = subst (λ trips. HasNumber trips c.args.trip.number id) (sym (trips_of_held c.args.self.now held c.held-held.ensures)) number in
    no_times held.stop_times c.id.result.now c.in-None.ensures
    ∙ ap (λ q. entries (trip_times held.stop_times q)) (one_id held.trips c.args.trip.number c.id.result.now id c.id.ensures its)
    ∙ ap (λ tables. entries (trip_times tables.stop_times id)) (tables_of_held c.args.self.now held c.held-held.ensures)
