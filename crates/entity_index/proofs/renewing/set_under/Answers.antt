use Rattle.std.proofs.Common.{◌∙◌, ap, sym, subst, get_or, []}
use Rattle.feed_values.specs.Snapshot.{entity_of}
use Rattle.entity_index.specs.Lists.{with_list}
use Rattle.entity_index.specs.Seats.{AreSeated, HeldSeat, IsSeat, parts_in, places_of}
use Rattle.entity_index.proofs.AtKey.{each_at}
use Rattle.entity_index.proofs.Setting.{found-at, set-places, set_each, set-parts, none-parts}
use Rattle.entity_index.proofs.renewing.set_under.Goals as goal

pub returns-in-Some : goal.returns-in-Some
returns-in-Some c =
    let old = c.args.entries.now.entries in
    let w = c.set.new.self in
    let put = (c.get_mut.follows.holds c.set.new.self).0 in
    let found = sym c.in-Some.ensures.value in
    let place = ap (λ (s : HeldSeat). s.place) c.set.ensures in
    record {
      parts = ap parts_in put ∙ set-parts c.args.key.now w (λ l. with_list l c.args.part c.args.list) old c.in-Some.seat.now found (ap (λ (s : HeldSeat). s.parts) c.set.ensures);
      places = ap places_of put ∙ set-places c.args.key.now w old c.in-Some.seat.now found place;
      seats = λ ps phase h.
          let s = each_at (IsSeat ps phase) c.args.key.now old c.in-Some.seat.now h (sym (found-at old c.args.key.now) ∙ found) in
          subst (AreSeated ps phase) (sym put)
          (set_each c.args.key.now w (IsSeat ps phase) old
          (record { value = ap (λ (x : HeldSeat). x.value) c.set.ensures ∙ s.value ∙ ap (λ n. entity_of (get_or ps n [])) (sym place); stays = ap (λ (x : HeldSeat). x.phase) c.set.ensures ∙ s.stays }) h);
    }

pub returns-in-None : goal.returns-in-None
returns-in-None c =
    let same = ap (λ m. m.entries) c.get_mut.follows.holds-at-none in
    record {
      parts = ap parts_in same ∙ none-parts c.args.key.now (λ l. with_list l c.args.part c.args.list) c.args.entries.now.entries (sym c.in-None.ensures.value);
      places = ap places_of same;
      seats = λ ps phase h. subst (AreSeated ps phase) (sym same) h;
    }
