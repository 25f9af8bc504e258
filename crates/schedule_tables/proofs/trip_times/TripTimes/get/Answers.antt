use Rattle.std.proofs.Common.{ap, ◌∙◌, sym, arith}
use Rattle.std.specs.FinMap as map
use Rattle.schedule_tables.proofs.SequenceLemmas.{get_none, read_at}
use Rattle.schedule_tables.proofs.trip_times.TripTimes.get.Goals as goal

pub index-requires : goal.index-requires
index-requires c =
    let at = rw c.as_slice.ensures.value at c.in-Ok.ensures.found in
    omega (arith, at.in_range)

pub returns-in-Ok : goal.returns-in-Ok
returns-in-Ok c =
    let at = rw c.as_slice.ensures.value at c.in-Ok.ensures.found in
    read_at c.self.inside.times.items c.args.sequence _ _ c.self.invariant at c.index.ensures ∙ ap (λ m. map.get m c.args.sequence) c.self.view_is

pub returns-in-Err : goal.returns-in-Err
returns-in-Err c =
    let gap = rw c.as_slice.ensures.value at c.in-Err.ensures.absent in
    sym (get_none c.self.inside.times.items c.args.sequence _ c.self.invariant gap) ∙ ap (λ m. map.get m c.args.sequence) c.self.view_is
