use Rattle.std.proofs.Common.{◌∙◌, refl, map}
use Rattle.touched_entities.proofs.Moving.{among_here, apart_from, bytes_stay, distinct_here, first_among, lists_next, lists_stay, not_it, values_next}
use Rattle.touched_entities.proofs.exchanging.move_lists.Goals as goal

pub loop-incoming-preserved : goal.loop-incoming-preserved
loop-incoming-preserved c =
    let held = c.loop-incoming.invariant in
    let start = c.args.index.now in
    let old = c.loop-incoming.index in
    let new = c.take_parts.new.self in
    let it = c.loop-incoming.incoming-iterator.rest.items in
    let rest = c.next.new.self.rest.items in
    let x = c.in-Some.incoming in
    let step = c.in-Some.ensures.steps.0 in
    let here = c.take_parts.ensures.here in
    let others = c.take_parts.ensures.others in
    let put = c.in_ok-push.ensures.ok in
    let distinct = distinct_here it rest x step held.distinct in
    let first = first_among it rest x step in
    let all = map (λ c. c.key) c.args.coming in
    record {
      values = values_next it rest c.args.coming c.loop-incoming.came c.push.new.self x _ step refl refl put held.values;
      lists = lists_next start c.loop-incoming.came c.push.new.self _ put (c.take_parts.ensures.taken ∙ held.left x.key first) held.lists;
      distinct = distinct.1;
      left = λ k m. lists_stay x.key old new here others k (apart_from x.key k (map (λ c. c.key) rest) distinct.0 m) ∙ held.left k (among_here it rest x step k m);
      others = λ k m. lists_stay x.key old new here others k (not_it x.key k all (held.among x.key first) m) ∙ held.others k m;
      bytes = λ f. bytes_stay x.key old new here others f ∙ held.bytes f;
      far = λ f h. others f (h x.key (held.among x.key first)) ∙ held.far f h;
      among = λ k m. held.among k (among_here it rest x step k m);
    }
