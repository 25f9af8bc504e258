use Rattle.std.proofs.Common.{true, false, refl, sym, ap, ◌∙◌}
use Rattle.json.specs.Value.{members_view}
use Rattle.json.specs.declared.value.Value.{Null}
use Rattle.json_entities.specs.Parts.{emptied, entity_values}
use Rattle.json_entities.proofs.ItemsRead.{all_items, all_members, items_before, members_before, none_left, null_view, others_after, values_after, values_stay}
use Rattle.json_entities.proofs.parts.set_apart.Goals as goal

pub loop-key-init : goal.loop-key-init
loop-key-init c =
    record {
      others_are = ap (λ ms. members_before ms (emptied (members_view c.into_iter-key-iterator.result.rest.items))) c.new-others.ensures.items ∙ ap (λ ms. emptied (members_view ms)) c.into_iter-key-iterator.ensures.into_iter_gives.0;
      entities_are = ap (λ vs. items_before vs (entity_values (members_view c.into_iter-key-iterator.result.rest.items))) c.new-entities.ensures.items ∙ ap (λ ms. entity_values (members_view ms)) c.into_iter-key-iterator.ensures.into_iter_gives.0;
    }

pub loop-key-preserved-in-Continue-branch-2 : goal.loop-key-preserved-in-Continue-branch-2
loop-key-preserved-in-Continue-branch-2 c =
    let i = c.loop-key.invariant in
    let is = sym c.is_entity.ensures ∙ c.if-is_entity.true in
    record {
      others_are = ap (λ ms. members_before ms (emptied (members_view c.next.new.self.rest.items))) c.in_ok-push.ensures.items
          ∙ others_after c.loop-key.others.items c.in-Some.key c.in-Some.value Null c.next.new.self.rest.items _ true is (null_view Null refl) (ap (λ r. members_before c.loop-key.others.items (emptied (members_view r))) (sym c.in-Some.ensures.steps.0) ∙ i.others_are);
      entities_are = ap (λ vs. items_before vs (entity_values (members_view c.next.new.self.rest.items))) c.in_ok-push-2.ensures.items
          ∙ values_after c.loop-key.entities.items c.in-Some.key c.in-Some.value c.next.new.self.rest.items _ is (ap (λ r. items_before c.loop-key.entities.items (entity_values (members_view r))) (sym c.in-Some.ensures.steps.0) ∙ i.entities_are);
    }

pub loop-key-preserved : goal.loop-key-preserved
loop-key-preserved c =
    let i = c.loop-key.invariant in
    let is = sym c.is_entity.ensures ∙ c.if-is_entity.false in
    record {
      others_are = ap (λ ms. members_before ms (emptied (members_view c.next.new.self.rest.items))) c.in_ok-push-3.ensures.items
          ∙ others_after c.loop-key.others.items c.in-Some.key c.in-Some.value c.in-Some.value c.next.new.self.rest.items _ false is refl (ap (λ r. members_before c.loop-key.others.items (emptied (members_view r))) (sym c.in-Some.ensures.steps.0) ∙ i.others_are);
      entities_are = values_stay c.loop-key.entities.items c.in-Some.key c.in-Some.value c.next.new.self.rest.items _ is (ap (λ r. items_before c.loop-key.entities.items (entity_values (members_view r))) (sym c.in-Some.ensures.steps.0) ∙ i.entities_are);
    }

pub returns-clause-others : goal.returns-clause-others
returns-clause-others c =
    sym (all_members c.loop-key.others.items) ∙ ap (λ r. members_before c.loop-key.others.items (emptied (members_view r))) (sym (none_left c.loop-key.key-iterator.rest.items (sym c.loop-key.key-iterator.rest.ok.0 ∙ c.in-None.ensures.steps.0))) ∙ c.loop-key.invariant.others_are

pub returns-clause-entities : goal.returns-clause-entities
returns-clause-entities c =
    sym (all_items c.loop-key.entities.items) ∙ ap (λ r. items_before c.loop-key.entities.items (entity_values (members_view r))) (sym (none_left c.loop-key.key-iterator.rest.items (sym c.loop-key.key-iterator.rest.ok.0 ∙ c.in-None.ensures.steps.0))) ∙ c.loop-key.invariant.entities_are
