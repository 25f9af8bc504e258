use Rattle.timetable.proofs.TimetableLemmas.{stops_differ_in}
use Rattle.timetable.proofs.timetable.Timetable.stops_differ.Goals as goal

pub returns : goal.returns
returns c = stops_differ_in c.args.self.now
