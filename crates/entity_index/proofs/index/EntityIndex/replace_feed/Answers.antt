use Rattle.std.proofs.Common.{◌∙◌, ap, sym, subst}
use Rattle.entity_index.specs.Changes.{AreIncoming, replaced}
use Rattle.entity_index.specs.Held.{HeldEntities, held_at}
use Rattle.entity_index.specs.Rooms.{in_room}
use Rattle.entity_index.proofs.Feeds.{held-room}
use Rattle.entity_index.proofs.index.EntityIndex.replace_feed.Goals as goal

pub put_in_room-requires : goal.put_in_room-requires
put_in_room-requires c =
    let f = c.args.feed in
    record {
      places = c.self.invariant;
      incoming = subst (λ (h : HeldEntities). AreIncoming f h.bytes c.args.kept c.args.incoming) (sym (ap (λ i. held_at i f) c.self.view_is) ∙ held-room c.self.inside.rooms.items f) c.requires;
    }

pub invariant_of-result : goal.invariant_of-result
invariant_of-result c = c.in_ok-put_in_room.ensures.places

pub returns : goal.returns
returns c =
    let f = c.args.feed in
    let old = c.self.inside.rooms.items in
    let new = c.put_in_room.new.rooms.items in
    record {
      here = held-room new f ∙ c.in_ok-put_in_room.ensures.here ∙ ap (replaced f c.args.kept c.args.incoming) (sym (held-room old f) ∙ ap (λ i. held_at i f) c.self.view_is);
      others = λ g n. held-room new g ∙ ap in_room (c.in_ok-put_in_room.ensures.others g n) ∙ sym (held-room old g) ∙ ap (λ i. held_at i g) c.self.view_is;
    }
