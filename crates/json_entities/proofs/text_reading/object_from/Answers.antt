use Rattle.std.proofs.Common.{sym, ap, ◌∙◌, codes}
use Rattle.std.proofs.lemmas.Result.{err_from_is_err_and}
use Rattle.json.specs.Json as json
use Rattle.json.specs.Value.{members_view}
use Rattle.serde_json.specs.Read.{of_json}
use Rattle.serde_json.specs.View.{view}
use Rattle.feed_values.specs.Messages.{entity}
use Rattle.feed_values.specs.Views.{entity_value}
use Rattle.json_entities.specs.FromText.{answered}
use Rattle.json_entities.specs.Parts.{as_said, last_of}
use Rattle.json_entities.proofs.FromText.{fault_handed_on, object_said}
use Rattle.json_entities.proofs.text_reading.object_from.Goals as goal

pub returns-in_err-message_with-clause-err : goal.returns-in_err-message_with-clause-err
returns-in_err-message_with-clause-err c =
    let p = err_from_is_err_and c.from_residual-in_err-message_with.result c.from_residual-in_err-message_with.ensures.1 in
    fault_handed_on c.from_residual-in_err-message_with.result p.0 c.in_err-message_with.field-0.0 _ _ p.1 p.2
    (object_said (members_view c.args.members.items) (as_said entity_value c.in_ok-entities.entities) (view c.in_ok-tree.tree)
    (ap (last_of (codes "entity") entity) (sym c.in_ok-others.ensures.entities) ∙ c.in_ok-entities.ensures.ok)
    (ap (λ ms. of_json (json.object ms)) (sym c.in_ok-others.ensures.others) ∙ c.in_ok-tree.ensures.ok))
    c.in_err-message_with.ensures.read

pub returns-clause-ok : goal.returns-clause-ok
returns-clause-ok c =
    object_said (members_view c.args.members.items) (as_said entity_value c.in_ok-entities.entities) (view c.in_ok-tree.tree)
    (ap (last_of (codes "entity") entity) (sym c.in_ok-others.ensures.entities) ∙ c.in_ok-entities.ensures.ok)
    (ap (λ ms. of_json (json.object ms)) (sym c.in_ok-others.ensures.others) ∙ c.in_ok-tree.ensures.ok)
    ∙ ap answered c.in_ok-message_with.ensures.read
