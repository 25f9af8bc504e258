use Rattle.std.proofs.Common.{◌∙◌, sym, ap}
use Rattle.std.specs.Cmp.Lexicographic.{pointwise}
use Rattle.std.specs.FinMap.{entries}
use Rattle.timetable.specs.Lookups.{tables_in}
use Rattle.timetable.specs.Times.{keyed}
use Rattle.timetable.specs.Timetables.{trip_times}
use Rattle.timetable.specs.declared.StopTime.{StopTime}
use Rattle.timetable_agree.specs.Alike.{same_entry}
use Rattle.timetable_agree.proofs.Pointwise.{pointwise-map}
use Rattle.timetable_agree.proofs.trips.same_times.Goals as goal

pub returns : goal.returns
returns c = λ id is_old is_new.
    let a = tables_in c.args.old.now in
    let b = tables_in c.args.new.now in
    let xs = c.stop_times.result.now in
    let ys = c.stop_times-2.result.now in
    c.same_stop_times.ensures
    ∙ sym (pointwise-map (same_entry a.stop_times.stops b.stop_times.stops) (λ (t : StopTime). (t.sequence, t)) xs ys)
    ∙ ap (λ es. pointwise (same_entry a.stop_times.stops b.stop_times.stops) es (keyed ys)) (c.stop_times.ensures.times id is_old)
    ∙ ap (λ es. pointwise (same_entry a.stop_times.stops b.stop_times.stops) (entries (trip_times a.stop_times id)) es) (c.stop_times-2.ensures.times id is_new)
