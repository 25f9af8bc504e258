use Rattle.std.proofs.Common.{ap, ◌∙◌}
use Rattle.rt_outside.specs.Store.{contents_told}
use Rattle.schedule_tables.specs.Folders.{path}
use Rattle.schedule_tables.proofs.FolderLemmas.{held_answers, no_read_fault}
use Rattle.schedule_tables.proofs.folder.AnySource.load.Goals as goal

pub returns-in-Ok-clause-cause : goal.returns-in-Ok-clause-cause
returns-in-Ok-clause-cause g c = λ file is. absurd (no_read_fault g.T.Table.format c.as_slice.result.now c.read_table.result file c.read_table.ensures.err is)

pub returns-in-Ok-clause-asked : goal.returns-in-Ok-clause-asked
returns-in-Ok-clause-asked g c = λ file is. absurd (no_read_fault g.T.Table.format c.as_slice.result.now c.read_table.result file c.read_table.ensures.err is)

pub returns-in-Ok-clause-tables : goal.returns-in-Ok-clause-tables
returns-in-Ok-clause-tables g c =
    let bytes = c.as_slice.ensures.value in
    held_answers g.T.Table.format c.args.from.limit c.args.from.name.now c.as_str.result.now c.in-Ok.bytes.items c.read_table.result (contents_told (g.F.Files.state c.args.files.now).told)
    (c.as_str.ensures.value ∙ c.in_ok-name.ensures ∙ ap (path c.args.from.name.now) c.file.ensures)
    c.in-Ok.ensures.whole (rw bytes at c.read_table.ensures.ok) (rw bytes at c.read_table.ensures.err)
