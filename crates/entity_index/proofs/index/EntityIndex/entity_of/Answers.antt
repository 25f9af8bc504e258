use Rattle.std.proofs.Common.{◌∙◌, Some, None, ap, option_copied, option_map, subst}
use Rattle.feed_values.specs.Snapshot.{entity_payloads}
use Rattle.feed_values.specs.Views.{entity_value}
use Rattle.entity_index.specs.Held.{at_key}
use Rattle.entity_index.specs.Rooms.{HeldRoom, room_of}
use Rattle.entity_index.specs.Seats.{AreSeats}
use Rattle.entity_index.proofs.Feeds.{value-under}
use Rattle.entity_index.proofs.Setting.{found-at}
use Rattle.entity_index.proofs.index.EntityIndex.entity_of.Goals as goal

pub returns-in_err-seat : goal.returns-in_err-seat
returns-in_err-seat c =
    ap (λ o. option_map entity_value (option_copied o)) c.from_residual-in_err-seat.ensures
    ∙ value-under c.args.self.now c.self.inside.rooms.items c.args.key.now.feed c.in_ok-room.room.now c.self.view_is (c.in_ok-room.ensures ∙ ap (λ rs. room_of rs c.args.key.now.feed) c.deref.ensures.value) c.self.invariant
    (subst (λ (r : HeldRoom). AreSeats r.feed (entity_payloads r.bytes) r.phase r.seats) c.room.view_is c.room.invariant.seated) c.args.key.now None
    (c.in_err-seat.ensures.value ∙ found-at c.room.inside.entries.entries c.args.key.now ∙ ap (λ (r : HeldRoom). at_key c.args.key.now r.seats) c.room.view_is)

pub returns : goal.returns
returns c =
    ap (λ v. Some v) c.entity.ensures
    ∙ value-under c.args.self.now c.self.inside.rooms.items c.args.key.now.feed c.in_ok-room.room.now c.self.view_is (c.in_ok-room.ensures ∙ ap (λ rs. room_of rs c.args.key.now.feed) c.deref.ensures.value) c.self.invariant
    (subst (λ (r : HeldRoom). AreSeats r.feed (entity_payloads r.bytes) r.phase r.seats) c.room.view_is c.room.invariant.seated) c.args.key.now (Some c.in_ok-seat.seat.now)
    (c.in_ok-seat.ensures.value ∙ found-at c.room.inside.entries.entries c.args.key.now ∙ ap (λ (r : HeldRoom). at_key c.args.key.now r.seats) c.room.view_is)
