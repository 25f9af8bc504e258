use Rattle.std.proofs.Common.{◌∙◌, ap, subst, map}
use Rattle.feed_values.specs.Snapshot.{entity_payloads}
use Rattle.entity_index.specs.Rooms.{HeldRoom, room_of}
use Rattle.entity_index.specs.Seats.{AreSeats}
use Rattle.entity_index.proofs.Feeds.{keys-under, entities-under}
use Rattle.entity_index.proofs.index.EntityIndex.keys.Goals as goal

pub returns-in-Some-clause-keys : goal.returns-in-Some-clause-keys
returns-in-Some-clause-keys c =
    c.keys.ensures.rest ∙ ap (λ (r : HeldRoom). map (λ e. e.0) r.seats) c.room.view_is
    ∙ keys-under c.args.self.now c.self.inside.rooms.items c.args.feed c.in-Some.room.now c.self.view_is (c.in-Some.ensures ∙ ap (λ rs. room_of rs c.args.feed) c.deref.ensures.value)

pub returns-in-Some-clause-entities : goal.returns-in-Some-clause-entities
returns-in-Some-clause-entities c =
    entities-under c.args.self.now c.self.inside.rooms.items c.args.feed c.in-Some.room.now c.self.view_is (c.in-Some.ensures ∙ ap (λ rs. room_of rs c.args.feed) c.deref.ensures.value) c.self.invariant
    (subst (λ (r : HeldRoom). AreSeats r.feed (entity_payloads r.bytes) r.phase r.seats) c.room.view_is c.room.invariant.seated)
