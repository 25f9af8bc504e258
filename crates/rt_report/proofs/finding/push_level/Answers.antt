use Rattle.rt_report.proofs.Given.{then, ending}
use Rattle.rt_report.proofs.finding.push_level.Goals as goal

pub returns : goal.returns
returns c = ending c.push_text-2.result (rw c.line_name.ensures at c.push_text-2.ensures) (λ end. then (rw c.level.ensures at c.in_ok-push_text.ensures) end)
