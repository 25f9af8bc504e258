use Rattle.report_lines.specs.Lines.{line_said}
use Rattle.report_counts.proofs.SumLemmas.{sum_is}
use Rattle.report_counts.proofs.laws.each_line_counts.Goals as goal

pub returns : goal.returns
returns c = λ ignored lines. sum_is line_said ignored lines
