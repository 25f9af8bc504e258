use Rattle.std.proofs.Common.{◌+◌, ◌∙◌, ℕ, Bool, Some, ap, sym, subst, bytes_eq}
use Rattle.rule_table.specs.declared.key.EntityKey.{EntityKey}
use Rattle.rule_table.specs.Counts.{count_in}
use Rattle.entity_index.specs.Held.{at_key}
use Rattle.entity_index.specs.Put.{seat_one}
use Rattle.entity_index.specs.Tally.{IsTally, came_then, phase_at}
use Rattle.entity_index.proofs.Tallied.{first_seated, seated_after}
use Rattle.entity_index.proofs.renewing.seat_next.Goals as goal

pub returns-in-Some-false-clause-occurrence : goal.returns-in-Some-false-clause-occurrence
returns-in-Some-false-clause-occurrence c = λ n t.
    let first = c.args.first.now in
    let old = c.args.counts.now in
    let came = c.seat_first-came.ensures.came in
    let tally = λ (n : ℕ) (t : IsTally (phase_at c.args.phase (at_key first c.args.entries.now.entries)) n (count_in old first.id)).
    subst (λ o. IsTally o n (count_in old c.as_str.result.now)) (sym came) (subst (λ i. IsTally (phase_at c.args.phase (at_key first c.args.entries.now.entries)) n (count_in old i)) (sym c.as_str.ensures) t) in
    c.in_ok-occurrence.ensures.occurrence n (tally n t)

pub returns-in-Some-false-clause-seats : goal.returns-in-Some-false-clause-seats
returns-in-Some-false-clause-seats c = λ n t k.
    let under = λ (q : EntityKey). at_key q c.args.entries.now.entries in
    let at = sym (c.in-Some-false.is ∙ ap (λ (b : Bool). Some b) c.in-Some-false.field-0-test) ∙ c.seat_first-came.ensures.came in
    let none = subst (λ o. IsTally o n (count_in c.args.counts.now c.args.first.now.id)) (sym at) t in
    c.seat_first-came.ensures.seats k ∙ first_seated c.args.phase c.args.first.now c.args.place n c.requires under at none.0 k

pub returns-in-Some-false-clause-here : goal.returns-in-Some-false-clause-here
returns-in-Some-false-clause-here c = λ n t.
    let first = c.args.first.now in
    let old = c.args.counts.now in
    let came = c.seat_first-came.ensures.came in
    let tally = λ (n : ℕ) (t : IsTally (phase_at c.args.phase (at_key first c.args.entries.now.entries)) n (count_in old first.id)).
    subst (λ o. IsTally o n (count_in old c.as_str.result.now)) (sym came) (subst (λ i. IsTally (phase_at c.args.phase (at_key first c.args.entries.now.entries)) n (count_in old i)) (sym c.as_str.ensures) t) in
    subst (λ o. IsTally (came_then o) (n + 1) (count_in c.next_occurrence.new.counts first.id)) came
    (subst (λ i. IsTally (came_then c.seat_first-came.result) (n + 1) (count_in c.next_occurrence.new.counts i)) c.as_str.ensures (c.in_ok-occurrence.ensures.here n (tally n t)))

pub returns-in-Some-false-clause-others : goal.returns-in-Some-false-clause-others
returns-in-Some-false-clause-others c = λ other h. c.in_ok-occurrence.ensures.others other (ap (λ i. bytes_eq i other) c.as_str.ensures ∙ h)

pub returns-in_default-clause-occurrence : goal.returns-in_default-clause-occurrence
returns-in_default-clause-occurrence c = λ n t.
    let first = c.args.first.now in
    let old = c.args.counts.now in
    let came = c.seat_first-came.ensures.came in
    let tally = λ (n : ℕ) (t : IsTally (phase_at c.args.phase (at_key first c.args.entries.now.entries)) n (count_in old first.id)).
    subst (λ o. IsTally o n (count_in old c.as_str.result.now)) (sym came) (subst (λ i. IsTally (phase_at c.args.phase (at_key first c.args.entries.now.entries)) n (count_in old i)) (sym c.as_str.ensures) t) in
    c.in_ok-occurrence.ensures.occurrence n (tally n t)

pub returns-in_default-clause-seats : goal.returns-in_default-clause-seats
returns-in_default-clause-seats c = λ n t k.
    let first = c.args.first.now in
    let old = c.args.counts.now in
    let came = c.seat_first-came.ensures.came in
    let tally = λ (n : ℕ) (t : IsTally (phase_at c.args.phase (at_key first c.args.entries.now.entries)) n (count_in old first.id)).
    subst (λ o. IsTally o n (count_in old c.as_str.result.now)) (sym came) (subst (λ i. IsTally (phase_at c.args.phase (at_key first c.args.entries.now.entries)) n (count_in old i)) (sym c.as_str.ensures) t) in
    let next = λ (q : EntityKey). at_key q c.seat_first-came.new.entries.entries in
    c.seat_one.ensures k
    ∙ ap (λ m. seat_one c.args.phase (let e : EntityKey × ℕ = (record first { occurrence = m }, c.args.place) in e) next k) (c.in_ok-occurrence.ensures.occurrence n (tally n t))
    ∙ seated_after c.args.phase first c.args.place n c.requires (λ q. at_key q c.args.entries.now.entries) next _ t c.seat_first-came.ensures.seats k

pub returns-in_default-clause-here : goal.returns-in_default-clause-here
returns-in_default-clause-here c = λ n t.
    let first = c.args.first.now in
    let old = c.args.counts.now in
    let came = c.seat_first-came.ensures.came in
    let tally = λ (n : ℕ) (t : IsTally (phase_at c.args.phase (at_key first c.args.entries.now.entries)) n (count_in old first.id)).
    subst (λ o. IsTally o n (count_in old c.as_str.result.now)) (sym came) (subst (λ i. IsTally (phase_at c.args.phase (at_key first c.args.entries.now.entries)) n (count_in old i)) (sym c.as_str.ensures) t) in
    subst (λ o. IsTally (came_then o) (n + 1) (count_in c.next_occurrence.new.counts first.id)) came
    (subst (λ i. IsTally (came_then c.seat_first-came.result) (n + 1) (count_in c.next_occurrence.new.counts i)) c.as_str.ensures (c.in_ok-occurrence.ensures.here n (tally n t)))

pub returns-in_default-clause-others : goal.returns-in_default-clause-others
returns-in_default-clause-others c = λ other h. c.in_ok-occurrence.ensures.others other (ap (λ i. bytes_eq i other) c.as_str.ensures ∙ h)
