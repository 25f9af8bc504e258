use Rattle.std.proofs.lemmas.Result.{on_ok_weaker}
use Rattle.report_lines.specs.Lines.{line_said}
use Rattle.report_counts.proofs.LineLemmas.{taken}
use Rattle.report_counts.proofs.counts.Counts.take.Goals as goal

pub returns : goal.returns
returns c =
    on_ok_weaker c.add.result
    (λ h before start. taken line_said c.args.ignored.now before c.args.line.now c.args.self.now c.add.new.self _ c.in_ok-said.said c.in_ok-said.ensures c.in_ok-self.ensures start h)
    c.add.ensures
