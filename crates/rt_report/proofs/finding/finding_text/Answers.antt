use Rattle.std.proofs.Common.{◌∙◌}
use Rattle.rt_report.specs.Findings.{finding_data}
use Rattle.rt_report.proofs.Given.{text_is}
use Rattle.rt_report.proofs.finding.finding_text.Goals as goal

pub returns-clause-text : goal.returns-clause-text
returns-clause-text c =
    text_is (finding_data c.args.line (record { rule = c.args.rule; place = c.args.place.now; facts = c.args.facts.now }) c.args.since) c.new-out.result c.push_finding.new.out c.into_inner.result.items
    (c.new-out.ensures.before ∙ c.in_ok-with_capacity.ensures.items) c.new-out.ensures.tokens c.in_ok-push_finding.ensures c.into_inner.ensures.items
