use Rattle.std.proofs.Common.{ap, option_map, refl}
use Rattle.timetable.proofs.TimetableLemmas.{no_row}
use Rattle.timetable.proofs.timetable.Timetable.stop_kind.Goals as goal

pub returns-in-None : goal.returns-in-None
returns-in-None c = ap (option_map (λ only. only.item.kind)) (no_row c.args.self.now (λ tables. tables.stops) c.args.id.now c.in-None.is refl)
