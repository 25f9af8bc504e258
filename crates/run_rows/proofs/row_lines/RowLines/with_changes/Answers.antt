use Rattle.std.proofs.Common.{◌∙◌, ap}
use Rattle.follow_engine.specs.Deltas.{all_opened}
use Rattle.rt_report.specs.FindingLines.{any_error}
use Rattle.run_rows.proofs.OpenedLines.{any_opened}
use Rattle.run_rows.proofs.row_lines.RowLines.with_changes.Goals as goal

pub returns-clause-error : goal.returns-clause-error
returns-clause-error c = c.opens_error-error.ensures ∙ any_opened c.as_slice.result.now ∙ ap (λ xs. any_error (all_opened xs)) c.as_slice.ensures
