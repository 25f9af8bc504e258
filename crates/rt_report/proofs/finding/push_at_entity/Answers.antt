use Rattle.rt_report.proofs.Given.{then, ending}
use Rattle.rt_report.proofs.finding.push_at_entity.Goals as goal

pub returns : goal.returns
returns c =
    ending c.push_count-2.result c.push_count-2.ensures (λ end.
    then c.in_ok-push_count.ensures (then (rw c.as_str.ensures at c.in_ok-push_text.ensures) (then c.in_ok-push_level.ensures end)))
