use Rattle.rt_report.proofs.Given.{then, ending}
use Rattle.rt_report.proofs.finding.push_on_header.Goals as goal

pub returns : goal.returns
returns c = ending c.push_level.result c.push_level.ensures (λ end. then c.in_ok-push_count.ensures end)
