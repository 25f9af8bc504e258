use Rattle.std.proofs.Common.{ap, arith, sym, ◌∙◌, ◌++◌}
use Rattle.schedule_tables.specs.Times.{by_sequence, keyed}
use Rattle.schedule_tables.proofs.RowLemmas.{held_late, held_nowhere, held_rising, no_more, one_more, put_last, put_late, rising_last, still_keyed}
use Rattle.schedule_tables.proofs.SequenceLemmas.{find_none}
use Rattle.schedule_tables.proofs.trip_rows.TripRowsGroup.put.Goals as goal

pub returns-then-contains : goal.returns-then-contains
returns-then-contains c =
    let trip = c.self.inside in
    no_more _ _ c.args.item c.self.view_is (held_late trip.rising.items trip.late c.args.item.sequence (sym c.contains.ensures ∙ c.if-contains.true))

pub returns-in-Ok : goal.returns-in-Ok
returns-in-Ok c =
    let trip = c.self.inside in
    let at = rw c.as_slice.ensures.value at c.in-Ok.ensures.found in
    no_more _ _ c.args.item c.self.view_is (held_rising trip.rising.items trip.late c.args.item.sequence _ c.self.invariant.0 at)

pub invariant_of-self-then-at-len : goal.invariant_of-self-then-at-len
invariant_of-self-then-at-len c =
    let gap = rw c.as_slice.ensures.value at c.in-Err.ensures.absent in
    (rw c.in_ok-push.ensures.ok (rising_last c.self.inside.rising.items c.args.item _ c.self.invariant.0 gap (omega (arith, c.if-at-len.true, c.len.ensures, c.self.inside.rising.ok.0))), c.self.invariant.1)

pub returns-then-at-len : goal.returns-then-at-len
returns-then-at-len c =
    let trip = c.self.inside in
    let gap = rw c.as_slice.ensures.value at c.in-Err.ensures.absent in
    let none = find_none trip.rising.items c.args.item.sequence _ gap in
    one_more _ _ _ c.args.item c.self.view_is
    (held_nowhere trip.rising.items trip.late c.args.item.sequence none (sym c.contains.ensures ∙ c.if-contains.false))
    (ap (λ ts. by_sequence (keyed ts ++ trip.late)) c.in_ok-push.ensures.ok ∙ put_last trip.rising.items trip.late c.args.item none)

pub invariant_of-self-2 : goal.invariant_of-self-2
invariant_of-self-2 c = (c.self.invariant.0, still_keyed _ _ c.args.item c.self.invariant.1 c.in_ok-put.ensures.ok)

pub returns : goal.returns
returns c =
    let trip = c.self.inside in
    let gap = rw c.as_slice.ensures.value at c.in-Err.ensures.absent in
    let none = find_none trip.rising.items c.args.item.sequence _ gap in
    one_more _ _ _ c.args.item c.self.view_is
    (held_nowhere trip.rising.items trip.late c.args.item.sequence none (sym c.contains.ensures ∙ c.if-contains.false))
    (ap (λ more. by_sequence (keyed trip.rising.items ++ more)) c.in_ok-put.ensures.ok ∙ put_late trip.rising.items trip.late c.args.item none)
