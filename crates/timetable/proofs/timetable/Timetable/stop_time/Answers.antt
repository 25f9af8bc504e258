use Rattle.std.specs.FinMap as map
use Rattle.timetable.specs.Lookups.{IsStop}
use Rattle.timetable.proofs.TimetableLemmas.{lent}
use Rattle.timetable.proofs.timetable.Timetable.stop_time.Goals as goal

pub returns-in-Some-clause-stop : goal.returns-in-Some-clause-stop
returns-in-Some-clause-stop c =
    lent (λ time. IsStop c.args.self.now time.stop) c.get.result (map.get c.in-Some.times.now c.args.sequence) c.get.ensures (c.in-Some.ensures.stops c.args.sequence)
