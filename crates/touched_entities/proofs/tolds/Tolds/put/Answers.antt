use Rattle.std.proofs.Common.{◌≡◌, ◌∙◌, ◌≤◌, ap, length, subst, sym}
use Rattle.std.proofs.lemmas.List.{get_or_default}
use Rattle.rule_table.specs.declared.key.EntityKey.{EntityKey}
use Rattle.rule_table.specs.Groups.{Each}
use Rattle.touched_entities.specs.Told.{FeedTold, Told, feed_told, nothing_told}
use Rattle.touched_entities.proofs.Places.{few_set, own_set}
use Rattle.touched_entities.proofs.tolds.Tolds.put.Goals as goal

pub returns-clause-own : goal.returns-clause-own
returns-clause-own c = λ are.
    let feeds = c.make_place.new.feeds.items in
    let f = c.args.key.now.feed in
    let made = c.in_ok-make_place.ensures in
    let was = c.behind-self.view_is ∙ c.index_mut.ensures.value ∙ get_or_default feeds f c.index_mut.result.now nothing_told made.within ∙ made.same f ∙ ap (λ fs. feed_told fs f) c.self.view_is in
    record {
      few = few_set feeds f _ (made.few (subst (λ fs. length fs ≤ 256) (sym c.self.view_is) are.few));
      own = own_set feeds f _ made.within (λ g. subst (λ (t : FeedTold). Each (λ (e : EntityKey × Told). e.0.feed ≡ g) t.entities) (sym (made.same g ∙ ap (λ fs. feed_told fs g) c.self.view_is)) (are.own g))
          (c.in_ok-put_under.ensures.own (subst (λ (t : FeedTold). Each (λ (e : EntityKey × Told). e.0.feed ≡ f) t.entities) (sym was) (are.own f)));
    }
