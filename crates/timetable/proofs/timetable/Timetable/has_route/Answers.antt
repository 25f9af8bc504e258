use Rattle.std.proofs.Common.{ap, is_some, refl}
use Rattle.timetable.proofs.TimetableLemmas.{no_row}
use Rattle.timetable.proofs.timetable.Timetable.has_route.Goals as goal

pub returns-in-None : goal.returns-in-None
returns-in-None c = ap is_some (no_row c.args.self.now (λ tables. tables.routes) c.args.id.now c.in-None.is refl)
