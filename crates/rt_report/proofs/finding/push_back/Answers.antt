use Rattle.std.proofs.Common.{◌∙◌}
use Rattle.rt_report.proofs.Given.{then, last}
use Rattle.rt_report.proofs.finding.push_back.Goals as goal

pub returns : goal.returns
returns c =
    last c.end_object.result _ _ _ c.end_object.ensures (λ end.
    then (rw (c.as_str.ensures.value ∙ c.in_ok-path.ensures) at c.in_ok-push_text.ensures) (then (rw c.name.ensures at c.in_ok-push_text-2.ensures)
    (then c.in_ok-push_count.ensures end)))
