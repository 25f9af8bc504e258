use Rattle.std.proofs.Common.{◌≡◌, ◌≤◌, ◌+◌, ◌∷◌, [], refl, slice_get, sym, ◌∙◌, ap, length, Some, subst}
use Rattle.std.proofs.lemmas.List.{length-append}
use Rattle.std.proofs.lemmas.Option.{slice_get_read}
use Rattle.propagation.specs.Matching.{StandsAfter}
use Rattle.propagation.specs.Stops.{names, stops_in}
use Rattle.propagation.proofs.MatchLemmas.{EachMatch, after-next, each-push, is_match, least-next, low-first}
use Rattle.propagation.proofs.matching.Matching.places_of.Goals as goal

pub loop-update-preserved : goal.loop-update-preserved
loop-update-preserved c =
    let stops = stops_in c.args.stops.now in
    let u = c.update-item.result in
    let m = c.first_named-place.result in
    let before = c.loop-update.places.items in
    let all = c.loop-update.invariant in
    let is = is_match stops u before c.loop-update.from m all.after all.least c.first_named-place.ensures.first in
    let size = all.size in
    let at : slice_get c.args.updates.now (length before) ≡ Some u = rw size (slice_get_read c.args.updates.now (length c.args.updates.now) c.loop-update.update-index u refl c.loop-update-test.true c.update-item.is) in
    let items = c.in_ok-push.ensures.items in
    record {
      size = ap length items ∙ length-append before (m ∷ []) ∙ ap (λ n. n + 1) size;
      each = subst (EachMatch stops c.args.updates.now) (sym items) (each-push stops c.args.updates.now before u m at is all.each);
      after = λ j low. subst (λ l. StandsAfter l j) (sym items) (after-next before c.loop-update.from m all.after (low-first (names u) stops c.loop-update.from m c.first_named-place.ensures.first) j (subst (λ n. n ≤ j) c.next_from-from.ensures low));
      least = λ j stands. subst (λ n. n ≤ j) (sym c.next_from-from.ensures) (least-next before c.loop-update.from m all.least j (subst (λ l. StandsAfter l j) items stands));
    }
