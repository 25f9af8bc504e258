use Rattle.std.proofs.Common.{◌+◌, ◌<◌, ◌++◌, ◌∷◌, [], ap, ◌∙◌, sym, cond, bytes_eq, take, length, get_or, arith}
use Rattle.feed_values.specs.Snapshot.{entity_payloads}
use Rattle.rule_table.specs.Counts.{count_in}
use Rattle.rule_table.specs.declared.key.EntityKey.{EntityKey}
use Rattle.rule_history.specs.History.{id_of, count_id}
use Rattle.entity_index.proofs.Finding.{id_there, key_made, found_more, found_end, counted_more}
use Rattle.entity_index.proofs.keys.keys_by_place.Goals as goal

pub loop-place-preserved : goal.loop-place-preserved
loop-place-preserved c =
    let ps = entity_payloads c.args.kept.now in
    let i = c.loop-place.invariant in
    let place = c.loop-place.place in
    let l : place < length ps = omega (arith, c.loop-place-test.true, i.small) in
    let named = id_there ps place l c.entity_id-id.result.now c.entity_id-id.ensures.id in
    record {
      found = found_more c.args.feed ps place l c.loop-place.keys.items c.push.new.self.items
          (c.in_ok-push.ensures.items ∙ ap (λ (k : EntityKey). c.loop-place.keys.items ++ k ∷ [])
          (key_made c.args.feed ps place l c.in_ok-id.id c.in_ok-occurrence.occurrence (c.in_ok-id.ensures ∙ named) (c.in_ok-occurrence.ensures.before ∙ ap (count_in c.loop-place.counts) named ∙ i.counted (id_of (get_or ps place [])))))
          ∙ i.found;
      counted = λ id. c.in_ok-occurrence.ensures.after id ∙ ap (λ n. cond (bytes_eq c.entity_id-id.result.now id) 1 0 + n) (i.counted id)
          ∙ ap (λ x. cond (bytes_eq x id) 1 0 + count_id (take place ps) id) named ∙ sym (counted_more c.args.feed ps place l id);
      small = i.small;
    }

pub returns : goal.returns
returns c =
    let i = c.loop-place.invariant in
    found_end c.args.feed (entity_payloads c.args.kept.now) c.loop-place.place c.loop-place.keys.items _ (omega (arith, i.small, c.loop-place-test.false)) i.found
