use Rattle.std.proofs.Common.{ap, is_some, refl, sym}
use Rattle.timetable.proofs.TimetableLemmas.{no_row}
use Rattle.timetable.proofs.timetable.Timetable.trip.Goals as goal

pub returns-in-None-clause-none : goal.returns-in-None-clause-none
returns-in-None-clause-none c = sym (no_row c.args.self.now (λ tables. tables.trips) c.args.id.now c.in-None.is refl)

pub returns-in-None-clause-known : goal.returns-in-None-clause-known
returns-in-None-clause-known c = ap is_some (no_row c.args.self.now (λ tables. tables.trips) c.args.id.now c.in-None.is refl)
