use Rattle.std.proofs.Common.{◌≡◌, IfOk, IfSome, subst}
use Rattle.report_counts.specs.Counts.{counts_of}
use Rattle.rt_outside.specs.Store.{left}
use Rattle.report_input.specs.Lines.{lines_in}
use Rattle.report_input.proofs.FileLemmas.{opened_counts}
use Rattle.report_input.proofs.reading.count_report.Goals as goal

pub returns-in-Opened-clause-counts : goal.returns-in-Opened-clause-counts
returns-in-Opened-clause-counts g c =
    let counted = subst (λ told. IfSome told (λ store. IfOk c.count_opened.result (λ counts. counts ≡ counts_of c.args.ignored.now (lines_in (left store))))) c.in-Opened.ensures.store c.count_opened.ensures.counts in
    opened_counts c.args.ignored.now (g.F.Files.state c.args.files.now).told c.args.name.now c.count_opened.result c.in-Opened.ensures.held counted c.count_opened.ensures.err
