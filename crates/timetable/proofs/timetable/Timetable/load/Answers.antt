use Rattle.std.proofs.Common.{IfSome, Ok, subst, ◌≡◌}
use Rattle.rt_outside.specs.Store.{contents_told}
use Rattle.timetable.specs.Timetables.{tables_of}
use Rattle.timetable.proofs.TimetableLemmas.{stops_differ_of_read, stops_of_read, tables_of_loaded}
use Rattle.timetable.proofs.timetable.Timetable.load.Goals as goal

pub with_tables-requires-clause-stops : goal.with_tables-requires-clause-stops
with_tables-requires-clause-stops g c = stops_of_read c.in_ok-loaded.loaded.1.1.1.1.0 c.in_ok-loaded.ensures.read.1.1.1.1.0

pub with_tables-requires-clause-differ : goal.with_tables-requires-clause-differ
with_tables-requires-clause-differ g c = stops_differ_of_read c.in_ok-loaded.loaded.1.1.1.1.0 c.in_ok-loaded.ensures.read.1.1.1.1.0

pub returns-clause-ok : goal.returns-clause-ok
returns-clause-ok g c =
    let told = contents_told (g.F.Files.state c.args.files.now).told in
    subst (λ tables. IfSome told (λ contents. tables_of c.args.folder.now contents ≡ Ok tables)) c.in_ok-with_tables.ensures.tables
    (tables_of_loaded c.args.folder.now c.in_ok-loaded.loaded told c.in_ok-loaded.ensures.tables)
