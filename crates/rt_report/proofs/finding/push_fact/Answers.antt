use Rattle.std.proofs.Common.{◌++◌, ◌∷◌, [], codes, subst}
use Rattle.json.specs.Token as token
use Rattle.rt_report.specs.Findings.{ask_keys, cell_data}
use Rattle.rt_report.specs.Tokens.{Adds, tokens_of}
use Rattle.rt_report.proofs.Given.{then, one, last, key_items}
use Rattle.rt_report.proofs.finding.push_fact.Goals as goal

pub returns : goal.returns
returns c =
    let fact = c.args.fact.now in
    last c.end_object.result _ _ _ c.end_object.ensures (λ end.
    then (one c.in_ok-begin_object.ensures)
    (then (subst (λ name. Adds c.begin_object.new.self c.push_text.new.out (token.key (codes "ask") ∷ token.string name ∷ [])) c.ask_name.ensures c.in_ok-push_text.ensures)
    (then (one c.in_ok-key.ensures) (then (one c.in_ok-begin_array.ensures)
    (subst (λ items. Adds c.begin_array.new.self c.end_object.new.self (items ++ (token.key (codes "value") ∷ (tokens_of (cell_data fact.value) ++ token.end_object ∷ []))))
    (key_items (ask_keys fact.ask))
    (then (then c.in_ok-push_keys.ensures (one c.in_ok-end_array.ensures)) (then (one c.in_ok-key-2.ensures) (then c.in_ok-push_cell.ensures end))))))))
