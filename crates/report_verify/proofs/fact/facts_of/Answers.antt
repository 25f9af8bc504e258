use Rattle.std.proofs.Common.{◌∙◌, sym, ap}
use Rattle.serde_json.specs.View.{view}
use Rattle.report_verify.specs.Said.{fact_of}
use Rattle.report_verify.proofs.TreeLemmas.{all_more}
use Rattle.report_verify.proofs.fact.facts_of.Goals as goal

pub loop-value-preserved : goal.loop-value-preserved
loop-value-preserved c =
    rw (c.in_ok-push.ensures.items)
    (all_more fact_of c.args.values.now c.loop-value.value-index c.value-item.result c.loop-value.facts.items c.in-Some.fact c.loop-value-test.true
    (ap (λ v. fact_of (view v)) (sym c.value-item.is) ∙ sym c.in_ok-fact.ensures ∙ c.in-Some.is) c.loop-value.invariant)
