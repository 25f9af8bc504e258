use Rattle.std.proofs.Common.{◌≡◌, ◌∙◌, None, Some, ap, sym, subst, set}
use Rattle.std.specs.Prelude.{IfSome}
use Rattle.std.proofs.lemmas.List.{get_or_default}
use Rattle.entity_index.specs.Changes.{AreIncoming, replaced}
use Rattle.entity_index.specs.Rooms.{AreAtPlaces, HeldRoom, in_room, room_of}
use Rattle.entity_index.proofs.Feeds.{same_places_of, swapped_here, swapped_other, swapped_at}
use Rattle.entity_index.proofs.index.put_in_room.Goals as goal

pub renewed_room-requires : goal.renewed_room-requires
renewed_room-requires c =
    let f = c.args.feed in
    let was = c.replace-old.ensures.value ∙ c.index_mut.ensures.value ∙ get_or_default c.make_place.new.rooms.items f c.index_mut.result.now None c.in_ok-make_place.ensures.within ∙ c.in_ok-make_place.ensures.same f in
    record {
      feed = subst (λ o. IfSome o (λ (r : HeldRoom). r.feed ≡ f)) (sym was) (c.requires.places f);
      incoming = subst (λ o. AreIncoming f (in_room o).bytes c.args.kept c.args.incoming) (sym was) c.requires.incoming;
    }

pub returns : goal.returns
returns c =
    let f = c.args.feed in
    let made = c.make_place.new.rooms.items in
    let l = c.in_ok-make_place.ensures.within in
    let was = c.replace-old.ensures.value ∙ c.index_mut.ensures.value ∙ get_or_default made f c.index_mut.result.now None l ∙ c.in_ok-make_place.ensures.same f in
    let room = c.in_ok-room.room in
    let items = ap (λ d. set (set made f d) f (Some room)) c.replace-old.ensures.after in
    record {
      places = subst AreAtPlaces (sym items) (swapped_at made f room l c.in_ok-room.ensures.feed (same_places_of c.args.rooms.now.items made c.in_ok-make_place.ensures.same c.requires.places));
      here = ap (λ xs. in_room (room_of xs f)) items ∙ ap in_room (swapped_here made f room l) ∙ c.in_ok-room.ensures.held ∙ ap (λ o. replaced f c.args.kept c.args.incoming (in_room o)) was;
      others = λ g n. ap (λ xs. room_of xs g) items ∙ swapped_other made f room l g n ∙ c.in_ok-make_place.ensures.same g;
    }
