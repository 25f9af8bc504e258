use Rattle.timetable.proofs.ReturnLemmas.{tells_returns}
use Rattle.timetable.proofs.TimetableLemmas.{rows_of_read}
use Rattle.timetable.proofs.laws.visits_twice_follows_its_stops.Goals as goal

pub returns : goal.returns
returns c = λ bytes table id read.
    let held = rows_of_read bytes table read in
    tells_returns table held.0 id held.1
