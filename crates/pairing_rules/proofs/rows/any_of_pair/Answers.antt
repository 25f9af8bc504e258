use Rattle.std.proofs.Common.{is_some, sym, ◌∙◌, ap}
use Rattle.std.specs.List.{find}
use Rattle.std.specs.Ordering.{is_le}
use Rattle.std.specs.BTreeMap.{keys}
use Rattle.pairing_rules.specs.Seats.{seat_cmp, is_pair}
use Rattle.pairing_rules.proofs.Lists.{cut, cut-some}
use Rattle.pairing_rules.proofs.Seated.{pair-front}
use Rattle.pairing_rules.proofs.rows.any_of_pair.Goals as goal

pub returns-in-Some : goal.returns-in-Some
returns-in-Some c =
    let found = sym (c.in-Some.ensures.first ∙ ap (λ low. find (λ s. is_le (seat_cmp low s)) (keys c.args.seats.now)) c.low-low.ensures) in
    c.is_of_pair.ensures ∙ sym (cut-some (is_pair c.args.kind c.args.trip c.args.vehicle) _ c.in-Some.seat.now found) ∙ pair-front c.args.kind c.args.trip c.args.vehicle (keys c.args.seats.now) c.in-Some.ensures.ordered

pub returns-in-None : goal.returns-in-None
returns-in-None c =
    let found = sym (c.in-None.ensures.first ∙ ap (λ low. find (λ s. is_le (seat_cmp low s)) (keys c.args.seats.now)) c.low-low.ensures) in
    sym (ap (λ x. is_some (cut (is_pair c.args.kind c.args.trip c.args.vehicle) x)) found) ∙ pair-front c.args.kind c.args.trip c.args.vehicle (keys c.args.seats.now) c.in-None.ensures.ordered
