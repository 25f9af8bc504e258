use Rattle.std.proofs.Common.{◌≡◌, ◌<◌, ◌≤◌, ◌+◌, ◌∙◌, ◌++◌, ◌∷◌, [], Some, ap, sym, subst, map, take, length, get_or, arith}
use Rattle.std.specs.Prelude.{option_map}
use Rattle.std.proofs.lemmas.List.{map-append, take_more}
use Rattle.feed_values.specs.Snapshot.{entity_of, entity_payloads}
use Rattle.feed_values.specs.Views.{entity_value}
use Rattle.rule_table.specs.Groups.{Each}
use Rattle.rule_table.specs.GroupLaws.{each_append}
use Rattle.rule_history.specs.History.{entities_in}
use Rattle.rule_history.specs.Answered.{payload_under}
use Rattle.entity_index.specs.declared.incoming.Incoming.{Incoming}
use Rattle.entity_index.proofs.Finding.{payload_there}
use Rattle.touched_entities.proofs.coming.decode_fresh.Goals as goal

pub loop-number-preserved : goal.loop-number-preserved
loop-number-preserved g c =
    let i = c.loop-number.invariant in
    let number = c.loop-number.number in
    let fresh = c.args.changes.now.fresh in
    let keys = c.args.changes.now.keys in
    let ps = entity_payloads c.args.kept.now in
    let es = entities_in c.args.feed c.args.kept.now in
    let l : number < length fresh = omega (arith, i.small, c.loop-number-test.true) in
    let m : number < length keys = omega (arith, l, c.requires.as_many) in
    let place = get_or c.as_slice-places.result.now number 0 in
    let at = ap (λ xs. get_or xs number 0) c.as_slice-places.ensures in
    let key = c.index-keys-number.result in
    let key_at = c.index-keys-number.is ∙ ap (λ xs. get_or xs number key) c.as_slice-keys.ensures in
    let one = c.in_ok-decode_one.field-0 in
    let named = c.in_ok-decode_one.ensures.key ∙ key_at in
    let P : Incoming → Type 0 = λ x. Some (entity_value x.entity) ≡ option_map entity_of (payload_under x.key es) in
    let value : P one =
    c.in_ok-decode_one.ensures.value
    ∙ ap (option_map entity_of) (payload_there ps place (subst (λ n. n < length ps) (sym at) (c.requires.within number l)) ∙ ap (λ n. Some (get_or ps n [])) at ∙ sym (c.requires.each number key l) ∙ ap (λ k. payload_under k es) (sym named)) in
    record {
      keys = ap (map (λ (x : Incoming). x.key)) c.in_ok-push.ensures.ok ∙ map-append (λ (x : Incoming). x.key) c.loop-number.came (one ∷ [])
          ∙ ap (λ ks. ks ++ one.key ∷ []) i.keys ∙ ap (λ k. take number keys ++ k ∷ []) named ∙ sym (take_more keys number key m);
      values = subst (Each P) (sym c.in_ok-push.ensures.ok) (each_append P c.loop-number.came (one ∷ []) i.values (value, tt));
      small = i.small;
      ticked = omega (arith, i.ticked, c.in_ok-decode_one.ensures.ticked);
      within = omega (arith, l);
    }
