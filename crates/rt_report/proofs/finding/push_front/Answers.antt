use Rattle.std.proofs.Common.{◌∷◌, codes, subst}
use Rattle.json.specs.Token as token
use Rattle.rt_report.specs.Tokens.{Adds}
use Rattle.rt_report.proofs.Given.{then, one, last, fact_items}
use Rattle.rt_report.proofs.finding.push_front.Goals as goal

pub returns : goal.returns
returns c =
    last c.end_array.result _ _ _ c.end_array.ensures (λ end.
    subst (λ items. Adds c.args.out.now c.end_array.new.self (token.begin_object ∷ token.key (codes "facts") ∷ token.begin_array ∷ items)) (fact_items c.args.facts.now)
    (then (one c.in_ok-begin_object.ensures) (then (one c.in_ok-key.ensures) (then (one c.in_ok-begin_array.ensures) (then c.in_ok-push_facts.ensures end)))))
