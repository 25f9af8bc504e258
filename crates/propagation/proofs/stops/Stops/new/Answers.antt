use Rattle.timetable.specs.Lookups.{tables_in, trips_in}
use Rattle.timetable.specs.Timetables.{trip_times}
use Rattle.propagation.proofs.StopLemmas.{an_id, rising-entries, with_ids-entries}
use Rattle.propagation.proofs.stops.Stops.new.Goals as goal

pub invariant_of-result-clause-rising : goal.invariant_of-result-clause-rising
invariant_of-result-clause-rising c =
    let table = c.args.table.now in
    let named = an_id (trips_in table) c.args.trip.number c.requires in
    let t = tables_in table in
    rising-entries c.stop_times-times.result.now (trip_times t.stop_times named.0) (c.stop_times-times.ensures.times named.0 named.1)

pub returns : goal.returns
returns c = λ id is.
    let t = tables_in c.args.table.now in
    with_ids-entries t.stop_times.stops c.stop_times-times.result.now (trip_times t.stop_times id) (c.stop_times-times.ensures.times id is)
