use Rattle.std.proofs.Common.{OnOk, sym, subst}
use Rattle.rt_report.specs.Findings.{finding_data}
use Rattle.rt_report.specs.Tokens.{Adds, tokens_of}
use Rattle.rt_report.proofs.Given.{then, ending}
use Rattle.rt_report.proofs.finding.push_finding.Goals as goal

pub returns-in_ok-push_on_header-in-Head : goal.returns-in_ok-push_on_header-in-Head
returns-in_ok-push_on_header-in-Head c =
    subst (λ at. OnOk c.push_back.result (Adds c.args.out.now c.push_back.new.out (tokens_of (finding_data c.args.told.kind (record { rule = c.args.told.rule; place = at; facts = c.args.told.facts.now }) c.args.told.since))))
    (sym c.in-Head.is)
    (ending c.push_back.result c.push_back.ensures (λ end.
    then c.in_ok-push_front.ensures (then c.in_ok-push_on_header-in-Head.ensures end)))

pub returns-in_ok-push_at_entity-in-Entity : goal.returns-in_ok-push_at_entity-in-Entity
returns-in_ok-push_at_entity-in-Entity c =
    subst (λ at. OnOk c.push_back-in-Entity.result (Adds c.args.out.now c.push_back-in-Entity.new.out (tokens_of (finding_data c.args.told.kind (record { rule = c.args.told.rule; place = at; facts = c.args.told.facts.now }) c.args.told.since))))
    (sym c.in-Entity.is)
    (ending c.push_back-in-Entity.result c.push_back-in-Entity.ensures (λ end.
    then c.in_ok-push_front.ensures (then c.in_ok-push_at_entity-in-Entity.ensures end)))
