use Rattle.std.proofs.Common.{IfSome, ℕ, length, subst, ◌<◌}
use Rattle.std.specs.FinMap as map
use Rattle.timetable.proofs.TimetableLemmas.{found_stops, tables_of_held}
use Rattle.timetable.proofs.timetable.Timetable.times.Goals as goal

pub returns-clause-stops : goal.returns-clause-stops
returns-clause-stops c =
    let held = c.held-held.result.now in
    subst (λ tables. IfSome c.get.result (λ times. (sequence : ℕ) → IfSome (map.get times.now sequence) (λ time. time.stop < length tables.stop_times.stops)))
    (tables_of_held c.args.self.now held c.held-held.ensures)
    (found_stops held.stop_times held.have_stops c.id.result.now c.get.result c.get.ensures)
