use Rattle.std.proofs.Common.{◌∙◌, ap, sym, subst, refl, cond, IsSome, Some}
use mathlib.Core.Bool.{beq}
use Rattle.entity_index.specs.Put.{seated}
use Rattle.entity_index.specs.Seats.{HeldSeat}
use Rattle.entity_index.specs.Tally.{phase_at}
use Rattle.entity_index.proofs.Setting.{changed_at, found-at, none_changed}
use Rattle.entity_index.proofs.renewing.seat_first.Goals as goal

pub returns-in-None-clause-came : goal.returns-in-None-clause-came
returns-in-None-clause-came c = sym (ap (phase_at c.args.phase) (sym (found-at c.args.entries.now.entries c.args.key.now) ∙ sym c.in-None.ensures.value))

pub returns-in-None-clause-seats : goal.returns-in-None-clause-seats
returns-in-None-clause-seats c =
    none_changed c.args.key.now c.args.entries.now.entries _ (λ (s : HeldSeat). cond (beq s.phase c.args.phase) s (seated c.args.place c.args.phase s)) (sym c.in-None.ensures.value) (ap (λ m. m.entries) c.get_mut.follows.holds-at-none)

pub returns-then-not-came-clause-came : goal.returns-then-not-came-clause-came
returns-then-not-came-clause-came c =
    ap (λ p. Some (beq p c.args.phase)) c.phase.ensures ∙ sym (ap (phase_at c.args.phase) (sym (found-at c.args.entries.now.entries c.args.key.now) ∙ sym c.in-Some.ensures.value))

pub returns-then-not-came-clause-seats : goal.returns-then-not-came-clause-seats
returns-then-not-came-clause-seats c =
    let s = c.in-Some.seat.now in
    let apart = ap (λ p. beq p c.args.phase) (sym c.phase.ensures) ∙ c.if-not-came.true in
    changed_at c.args.key.now c.args.entries.now.entries _ s c.seat_at.new.self (λ (x : HeldSeat). cond (beq x.phase c.args.phase) x (seated c.args.place c.args.phase x)) (sym c.in-Some.ensures.value)
    (c.seat_at.ensures ∙ sym (ap (λ b. cond b s (seated c.args.place c.args.phase s)) apart)) ((c.get_mut.follows.holds c.seat_at.new.self).3 (subst IsSome c.in-Some.ensures.value refl)).0

pub returns-else-not-came-clause-came : goal.returns-else-not-came-clause-came
returns-else-not-came-clause-came c =
    ap (λ p. Some (beq p c.args.phase)) c.phase.ensures ∙ sym (ap (phase_at c.args.phase) (sym (found-at c.args.entries.now.entries c.args.key.now) ∙ sym c.in-Some.ensures.value))

pub returns-else-not-came-clause-seats : goal.returns-else-not-came-clause-seats
returns-else-not-came-clause-seats c =
    let s = c.in-Some.seat.now in
    let same = ap (λ p. beq p c.args.phase) (sym c.phase.ensures) ∙ c.if-not-came.false in
    changed_at c.args.key.now c.args.entries.now.entries _ s s (λ (x : HeldSeat). cond (beq x.phase c.args.phase) x (seated c.args.place c.args.phase x)) (sym c.in-Some.ensures.value)
    (sym (ap (λ b. cond b s (seated c.args.place c.args.phase s)) same)) ((c.get_mut.follows.holds s).3 (subst IsSome c.in-Some.ensures.value refl)).0
