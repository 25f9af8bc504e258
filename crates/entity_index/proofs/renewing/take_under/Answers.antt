use Rattle.std.proofs.Common.{◌∙◌, ap, sym, subst, get_or, []}
use Rattle.std.specs.Prelude.{unwrap_or, option_map}
use Rattle.feed_values.specs.Snapshot.{entity_of}
use Rattle.entity_index.specs.Lists.{no_lists}
use Rattle.entity_index.specs.Seats.{AreSeated, HeldSeat, IsSeat, parts_in, places_of}
use Rattle.entity_index.proofs.AtKey.{each_at, at-mapped}
use Rattle.entity_index.proofs.Setting.{found-at, set-places, set_each, set-parts, none-parts}
use Rattle.entity_index.proofs.renewing.take_under.Goals as goal

pub returns-in-Some : goal.returns-in-Some
returns-in-Some c =
    let old = c.args.entries.now.entries in
    let key = c.args.key.now in
    let w = c.take_parts.new.self in
    let put = (c.get_mut.follows.holds c.take_parts.new.self).0 in
    let found = sym c.in-Some.ensures.value in
    let place = ap (λ (s : HeldSeat). s.place) c.take_parts.ensures.left in
    record {
      taken = c.take_parts.ensures.taken ∙ sym (ap (λ o. unwrap_or o no_lists) (at-mapped (λ k (s : HeldSeat). s.parts) old key ∙ ap (λ o. option_map (λ (s : HeldSeat). s.parts) o) (sym (found-at old key) ∙ found)));
      parts = ap parts_in put ∙ set-parts key w (λ l. no_lists) old c.in-Some.seat.now found (ap (λ (s : HeldSeat). s.parts) c.take_parts.ensures.left);
      places = ap places_of put ∙ set-places key w old c.in-Some.seat.now found place;
      seats = λ ps phase h.
          let s = each_at (IsSeat ps phase) key old c.in-Some.seat.now h (sym (found-at old key) ∙ found) in
          subst (AreSeated ps phase) (sym put)
          (set_each key w (IsSeat ps phase) old
          (record { value = ap (λ (x : HeldSeat). x.value) c.take_parts.ensures.left ∙ s.value ∙ ap (λ n. entity_of (get_or ps n [])) (sym place); stays = ap (λ (x : HeldSeat). x.phase) c.take_parts.ensures.left ∙ s.stays }) h);
    }

pub returns-in-None : goal.returns-in-None
returns-in-None c =
    let old = c.args.entries.now.entries in
    let key = c.args.key.now in
    let none = sym c.in-None.ensures.value in
    let same = ap (λ m. m.entries) c.get_mut.follows.holds-at-none in
    record {
      taken = c.new.ensures ∙ sym (ap (λ o. unwrap_or o no_lists) (at-mapped (λ k (s : HeldSeat). s.parts) old key ∙ ap (λ o. option_map (λ (s : HeldSeat). s.parts) o) (sym (found-at old key) ∙ none)));
      parts = ap parts_in same ∙ none-parts key (λ l. no_lists) old none;
      places = ap places_of same;
      seats = λ ps phase h. subst (AreSeated ps phase) (sym same) h;
    }
