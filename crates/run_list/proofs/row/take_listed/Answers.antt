use Rattle.std.proofs.Common.{◌≡◌, ap, subst, sym, IfSome}
use Rattle.std.proofs.lemmas.Result.{IfOk-weaker}
use Rattle.std.specs.FinMap.{get}
use Rattle.rt_outside.specs.Store.{contents_told}
use Rattle.timetable.specs.Timetables.{tables_of}
use Rattle.run_base.specs.Counted.{RoseAtMost, RoseBy, counters}
use Rattle.run_base.proofs.Chosen.{each}
use Rattle.run_list.specs.Listed.{input_in, row_outcome, timetable_outcome}
use Rattle.run_list.specs.Taken.{Counts, IsIn, IsRowEnd, IsTableEnd}
use Rattle.run_list.proofs.States.{table_counts_told, table_counts_most, table_end}
use Rattle.run_list.proofs.row.take_listed.Goals as goal

pub returns-in-Snapshot-clause-counted : goal.returns-in-Snapshot-clause-counted
returns-in-Snapshot-clause-counted g c = rw c.in-Snapshot.is c.take_snapshot.ensures.counted

pub returns-in-Snapshot-clause-most : goal.returns-in-Snapshot-clause-most
returns-in-Snapshot-clause-most g c = rw c.in-Snapshot.is c.take_snapshot.ensures.most

pub returns-in-Timetable-clause-outcome : goal.returns-in-Timetable-clause-outcome
returns-in-Timetable-clause-outcome g c =
    rw (c.in-Timetable.is, sym c.as_str.ensures)
    (IfOk-weaker c.take_timetable.result _ _ (λ end is. table_end (contents_told (g.F.Files.state c.args.files.now).told) c.args.number c.as_str.result.now c.args.engine end is) c.take_timetable.ensures.outcome)

pub returns-in-Timetable-clause-counted : goal.returns-in-Timetable-clause-counted
returns-in-Timetable-clause-counted g c =
    rw (c.in-Timetable.is, sym c.as_str.ensures)
    (table_counts_told (contents_told (g.F.Files.state c.args.files.now).told) c.take_timetable.result c.args.engine c.args.number c.as_str.result.now c.args.decodes.now _ _ c.take_timetable.ensures.counted)

pub returns-in-Timetable-clause-most : goal.returns-in-Timetable-clause-most
returns-in-Timetable-clause-most g c =
    rw (c.in-Timetable.is, sym c.as_str.ensures)
    (each (contents_told (g.F.Files.state c.args.files.now).told) _ _ (λ held rose. table_counts_most c.args.engine c.args.number c.as_str.result.now (tables_of c.as_str.result.now held) c.args.decodes.now _ _ rose)
    c.take_timetable.ensures.most)
