use Rattle.std.proofs.Common.{◌≡◌, ◌∙◌, ◌++◌, ◌∷◌, [], List, ap, sym, append-nil, append_assoc, rules}
use Rattle.entity_index.proofs.AtKey.{none_left}
use Rattle.touched_entities.proofs.ordering.append.Goals as goal

pub loop-item-preserved : goal.loop-item-preserved
loop-item-preserved g c =
    ap (λ xs. xs ++ c.next.new.self.rest.items) c.in_ok-push.ensures.ok ∙ append_assoc c.loop-item.all (c.in-Some.item ∷ []) c.next.new.self.rest.items
    ∙ ap (λ xs. c.loop-item.all ++ xs) (sym c.in-Some.ensures.steps.0) ∙ c.loop-item.invariant

pub returns : goal.returns
returns g c =
    let none = none_left c.loop-item.item-iterator.rest.items (sym c.loop-item.item-iterator.rest.ok.0 ∙ c.in-None.ensures.steps.0) in
    sym (ap (λ xs. c.loop-item.all ++ xs) none ∙ append-nil c.loop-item.all) ∙ c.loop-item.invariant
