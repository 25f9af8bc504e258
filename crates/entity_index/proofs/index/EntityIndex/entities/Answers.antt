use Rattle.std.proofs.Common.{◌∙◌, ap, subst}
use Rattle.feed_values.specs.Snapshot.{entity_payloads}
use Rattle.entity_index.specs.Rooms.{HeldRoom, room_of}
use Rattle.entity_index.specs.Seats.{AreSeats, values_in}
use Rattle.entity_index.proofs.Feeds.{values-under}
use Rattle.entity_index.proofs.index.EntityIndex.entities.Goals as goal

pub returns-in-Some : goal.returns-in-Some
returns-in-Some c =
    ap values_in (c.iter.ensures.rest ∙ ap (λ (r : HeldRoom). r.seats) c.room.view_is)
    ∙ values-under c.args.self.now c.self.inside.rooms.items c.args.feed c.in-Some.room.now c.self.view_is (c.in-Some.ensures ∙ ap (λ rs. room_of rs c.args.feed) c.deref.ensures.value) c.self.invariant
    (subst (λ (r : HeldRoom). AreSeats r.feed (entity_payloads r.bytes) r.phase r.seats) c.room.view_is c.room.invariant.seated)
