use Rattle.std.proofs.Common.{◌≡◌, ◌∙◌, ap, sym, subst, map, true, Some, bytes_eq}
use Rattle.std.specs.Cmp.Lexicographic.{pointwise}
use Rattle.feed_values.specs.Snapshot.{entity_payloads}
use Rattle.rule_history.specs.History.{id_of}
use Rattle.entity_index.specs.Held.{HeldEntities, KeyedParts}
use Rattle.entity_index.specs.Changes.{AreIncoming, replaced}
use Rattle.entity_index.specs.Rooms.{HeldRoom, in_room}
use Rattle.entity_index.proofs.Taken.{same_in, still_occur}
use Rattle.entity_index.proofs.renewing.next_in_order.Goals as goal

pub invariant_of-result : goal.invariant_of-result
invariant_of-result c =
    let r = c.room.inside in
    let inc = subst (λ (x : HeldRoom). AreIncoming x.feed (Some x.bytes) c.args.kept c.args.incoming) (sym c.room.view_is) c.requires.incoming in
    let ids = subst (λ (x : HeldRoom). pointwise bytes_eq (map id_of (entity_payloads x.bytes)) (map id_of (entity_payloads c.args.kept)) ≡ true) (sym c.room.view_is) c.requires.ids in
    let taken = same_in r.feed c.args.kept c.args.incoming r.kept r.phase r.entries.entries c.room.invariant.seated inc c.put_all.new.entries.entries ids c.len-count.ensures.ordered c.in_ok-put_all.ensures in
    record { seated = taken.seated; occurrences_are = still_occur r.kept c.args.kept ids r.occurrences.items c.room.invariant.occurrences_are }

pub returns : goal.returns
returns c =
    let r = c.room.inside in
    let inc = subst (λ (x : HeldRoom). AreIncoming x.feed (Some x.bytes) c.args.kept c.args.incoming) (sym c.room.view_is) c.requires.incoming in
    let ids = subst (λ (x : HeldRoom). pointwise bytes_eq (map id_of (entity_payloads x.bytes)) (map id_of (entity_payloads c.args.kept)) ≡ true) (sym c.room.view_is) c.requires.ids in
    let taken = same_in r.feed c.args.kept c.args.incoming r.kept r.phase r.entries.entries c.room.invariant.seated inc c.put_all.new.entries.entries ids c.len-count.ensures.ordered c.in_ok-put_all.ensures in
    record {
      feed = ap (λ (x : HeldRoom). x.feed) c.room.view_is;
      held = ap (λ (p : KeyedParts). let h : HeldEntities = record { bytes = Some c.args.kept; parts = p } in h) taken.parts_are ∙ ap (λ (x : HeldRoom). replaced x.feed c.args.kept c.args.incoming (in_room (Some x))) c.room.view_is;
    }
