use Rattle.std.proofs.Common.{◌<◌, ◌≤◌, ◌∙◌, sym, refl, length, arith}
use Rattle.feed_values.specs.Snapshot.{entity_payloads}
use Rattle.rule_history.specs.History.{entities_in}
use Rattle.entity_index.specs.Seats.{differ_at}
use Rattle.entity_index.proofs.Finding.{keys_end, keys_more, none_gone, order_end, order_more, other_here, places_end, places_more, same_length}
use Rattle.entity_index.proofs.comparing.in_same_order.Goals as goal

pub loop-place-preserved : goal.loop-place-preserved
loop-place-preserved c =
    let i = c.loop-place.invariant in
    let f = c.args.room.now.feed in
    let qs = entity_payloads c.args.room.now.bytes in
    let ps = entity_payloads c.args.kept.now in
    let place = c.loop-place.place in
    let l : place < length ps = omega (arith, i.small, c.loop-place-test.true) in
    let long = same_length qs ps c.requires in
    let m : place < length qs = omega (arith, l, long) in
    let before = entities_in f c.args.room.now.bytes in
    let b = differ_at c.args.kept.now c.args.room.now.bytes place in
    let other = other_here f qs ps c.requires place l b refl in
    record {
      places = places_more f ps place l before b c.loop-place.fresh.places c.put_changed.new.fresh.places other c.in_ok-put_changed.ensures.places ∙ i.places;
      keys = keys_more f ps place l before b c.loop-place.fresh.keys c.put_changed.new.fresh.keys other c.in_ok-put_changed.ensures.keys ∙ i.keys;
      order = order_more qs ps place m l b c.loop-place.fresh.any c.put_changed.new.fresh.any refl c.in_ok-put_changed.ensures.any ∙ i.order;
      small = i.small;
    }

pub returns : goal.returns
returns c =
    let i = c.loop-place.invariant in
    let f = c.args.room.now.feed in
    let qs = entity_payloads c.args.room.now.bytes in
    let ps = entity_payloads c.args.kept.now in
    let before = entities_in f c.args.room.now.bytes in
    let end : length ps ≤ c.loop-place.place = omega (arith, i.small, c.loop-place-test.false) in
    let long = same_length qs ps c.requires in
    let end_too : length qs ≤ c.loop-place.place = omega (arith, end, long) in
    record {
      fresh_is = places_end f ps c.loop-place.place before c.loop-place.fresh.places end i.places;
      keys_are = keys_end f ps c.loop-place.place before c.loop-place.fresh.keys _ end i.keys;
      gone_is = c.new.ensures ∙ sym (none_gone f qs ps c.requires);
      reordered_is = order_end qs ps c.loop-place.place c.loop-place.fresh.any end_too end i.order;
    }
