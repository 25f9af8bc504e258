use Rattle.std.proofs.Common.{◌∙◌}
use Rattle.std.proofs.lemmas.Result.{IfOk-weaker}
use Rattle.timetable.proofs.TwiceLemmas.{no_stop_times, returns_to-entries}
use Rattle.timetable.proofs.twice.visits_twice.Goals as goal

pub returns-in-Some : goal.returns-in-Some
returns-in-Some c = IfOk-weaker c.returns_to_a_stop.result _ _
    (λ twice e. e ∙ returns_to-entries c.args.times.now c.args.id.now c.in-Some.trip.now c.as_slice.result.now c.in-Some.ensures c.as_slice.ensures.entries) c.returns_to_a_stop.ensures

pub returns-in-None : goal.returns-in-None
returns-in-None c = no_stop_times c.args.times.now c.args.id.now c.in-None.ensures
