use Rattle.std.proofs.Common.{◌≡◌, ◌<◌, ◌≤◌, ◌∙◌, None, ap, sym, subst, refl, length, arith}
use Rattle.std.specs.Prelude.{IfSome}
use Rattle.std.proofs.lemmas.List.{get_or_default}
use Rattle.entity_index.specs.Changes.{with_part}
use Rattle.entity_index.specs.Rooms.{HeldRoom, in_room}
use Rattle.entity_index.proofs.Feeds.{none_past, placed_here, placed_other, placed_at}
use Rattle.entity_index.proofs.index.set_in_room.Goals as goal

pub returns-then-place-len : goal.returns-then-place-len
returns-then-place-len c =
    let f = c.args.key.now.feed in
    let past : length c.args.rooms.now.items ≤ f = omega arith in
    let none = none_past c.args.rooms.now.items f past in
    record {
      places = λ are. are;
      here = ap in_room none ∙ sym (ap (λ r. with_part c.args.key.now c.args.part c.args.list (in_room r)) none);
      others = λ g n. refl;
    }

pub returns : goal.returns
returns c =
    let f = c.args.key.now.feed in
    let old = c.args.rooms.now.items in
    let l : f < length old = omega arith in
    let new = c.set_if_held.new.room in
    let was = c.index_mut.ensures.value ∙ get_or_default old f c.index_mut.result.now None l in
    record {
      places = λ are. placed_at old f new l (c.set_if_held.ensures.feed f (subst (λ o. IfSome o (λ (r : HeldRoom). r.feed ≡ f)) (sym was) (are f))) are;
      here = ap in_room (placed_here old f new l) ∙ c.set_if_held.ensures.held ∙ ap (λ r. with_part c.args.key.now c.args.part c.args.list (in_room r)) was;
      others = placed_other old f new l;
    }
