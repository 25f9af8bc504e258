use Rattle.std.specs.BTreeMap.{get_by_text}
use Rattle.timetable.specs.Lookups.{tables_in}
use Rattle.timetable_agree.proofs.Remembered.{remembered_is}
use Rattle.timetable_agree.proofs.comparison.Comparison.same_trip.Goals as goal

pub returns-in-Some-clause-same : goal.returns-in-Some-clause-same
returns-in-Some-clause-same c =
    let self = c.args.self.now in
    remembered_is (tables_in self.before.now) (tables_in self.after.now) (get_by_text self.compared) c.args.id.now c.in-Some.same self.known c.in-Some.ensures
