use Rattle.std.proofs.Common.{◌∙◌, ap, sym, subst, Some}
use Rattle.feed_values.specs.Snapshot.{entity_payloads}
use Rattle.entity_index.specs.Held.{HeldEntities, KeyedParts}
use Rattle.entity_index.specs.Changes.{AreIncoming, replaced}
use Rattle.entity_index.specs.Rooms.{HeldRoom, in_room}
use Rattle.entity_index.proofs.Tallied.{seats_unseated}
use Rattle.entity_index.proofs.Taken.{other_in}
use Rattle.entity_index.proofs.renewing.next_anew.Goals as goal

pub invariant_of-result : goal.invariant_of-result
invariant_of-result c =
    let r = c.room.inside in
    let inc = subst (λ (x : HeldRoom). AreIncoming x.feed (Some x.bytes) c.args.kept c.args.incoming) (sym c.room.view_is) c.requires in
    let taken = other_in r.feed c.args.kept c.args.incoming r.kept r.phase r.entries.entries c.room.invariant.seated inc c.seat_anew.new.entries.entries c.len-count.ensures.ordered c.in_ok-occurrences.ensures.seated in
    record { seated = taken.seated; occurrences_are = c.in_ok-occurrences.ensures.occurrences }

pub returns : goal.returns
returns c =
    let r = c.room.inside in
    let inc = subst (λ (x : HeldRoom). AreIncoming x.feed (Some x.bytes) c.args.kept c.args.incoming) (sym c.room.view_is) c.requires in
    let taken = other_in r.feed c.args.kept c.args.incoming r.kept r.phase r.entries.entries c.room.invariant.seated inc c.seat_anew.new.entries.entries c.len-count.ensures.ordered c.in_ok-occurrences.ensures.seated in
    record {
      feed = ap (λ (x : HeldRoom). x.feed) c.room.view_is;
      held = ap (λ (p : KeyedParts). let h : HeldEntities = record { bytes = Some c.args.kept; parts = p } in h) taken.parts_are ∙ ap (λ (x : HeldRoom). replaced x.feed c.args.kept c.args.incoming (in_room (Some x))) c.room.view_is;
    }

pub seat_anew-requires : goal.seat_anew-requires
seat_anew-requires c =
    let r = c.room.inside in
    seats_unseated (entity_payloads r.kept) r.phase r.entries.entries c.room.invariant.seated.seats_are
