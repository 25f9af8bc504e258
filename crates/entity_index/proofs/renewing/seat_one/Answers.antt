use Rattle.std.proofs.Common.{ap, sym, subst, refl, IsSome}
use Rattle.entity_index.specs.Put.{seated}
use Rattle.entity_index.proofs.Setting.{changed_at, none_changed}
use Rattle.entity_index.proofs.renewing.seat_one.Goals as goal

pub returns-in-Some : goal.returns-in-Some
returns-in-Some c =
    changed_at c.args.key.now c.args.entries.now.entries _ c.in-Some.seat.now c.seat_at.new.self (seated c.args.place c.args.phase) (sym c.in-Some.ensures.value) c.seat_at.ensures
    ((c.get_mut.follows.holds c.seat_at.new.self).3 (subst IsSome c.in-Some.ensures.value refl)).0

pub returns-in-None : goal.returns-in-None
returns-in-None c = none_changed c.args.key.now c.args.entries.now.entries _ (seated c.args.place c.args.phase) (sym c.in-None.ensures.value) (ap (λ m. m.entries) c.get_mut.follows.holds-at-none)
