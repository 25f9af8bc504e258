use Rattle.timetable.specs.Lookups.{tables_in}
use Rattle.propagation.proofs.StopLemmas.{found_before, found_from, not_found}
use Rattle.propagation.proofs.stops.Stops.with_sequence.Goals as goal

pub returns-then-place-from : goal.returns-then-place-from
returns-then-place-from c =
    let t = tables_in c.args.self.now.table.now in
    found_from t.stop_times.stops c.args.sequence c.args.self.now.times.now c.args.from c.in-Ok.place c.args.self.now.rising c.in-Ok.ensures.found c.if-place-from.true

pub returns-else-place-from : goal.returns-else-place-from
returns-else-place-from c =
    let t = tables_in c.args.self.now.table.now in
    found_before t.stop_times.stops c.args.sequence c.args.self.now.times.now c.args.from c.in-Ok.place c.args.self.now.rising c.in-Ok.ensures.found c.if-place-from.false

pub returns-in-Err : goal.returns-in-Err
returns-in-Err c =
    let t = tables_in c.args.self.now.table.now in
    not_found t.stop_times.stops c.args.sequence c.args.self.now.times.now c.args.from c.in-Err.field-0 c.in-Err.ensures.absent
