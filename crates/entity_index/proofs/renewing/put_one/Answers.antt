use Rattle.std.proofs.Common.{◌≡◌, ◌∙◌, ap, sym, subst, refl, cond, IsSome, Some}
use Rattle.std.proofs.lemmas.Result.{on_ok_weaker}
use Rattle.feed_values.specs.Views.{entity_value}
use Rattle.rule_table.specs.declared.key.EntityKey.{EntityKey}
use Rattle.rule_table.specs.Order.{same_key}
use Rattle.entity_index.specs.Put.{come, put_one}
use Rattle.entity_index.specs.Held.{at_key}
use Rattle.entity_index.specs.Seats.{HeldSeat}
use Rattle.entity_index.proofs.Coming.{came_in}
use Rattle.entity_index.proofs.Setting.{found-at, put_at}
use Rattle.entity_index.proofs.renewing.put_one.Goals as goal

pub returns-in-Some : goal.returns-in-Some
returns-in-Some c =
    let came = c.args.came in
    let old = c.args.entries.now.entries in
    came_in c.args.phase came old _ c.renew.new.self
    (c.renew.ensures ∙ ap (λ e. let s : HeldSeat = record { place = c.in-Some.seat.now.place; phase = c.in-Some.seat.now.phase; value = entity_value e; parts = came.parts } in s) c.in_ok-entity.ensures
    ∙ sym (ap (come c.args.phase came) (sym (found-at old came.key) ∙ sym c.in-Some.ensures.value)))
    (put_at came.key old _ c.renew.new.self ((c.get_mut.follows.holds c.renew.new.self).3 (subst IsSome c.in-Some.ensures.value refl)).0)

pub returns-in-None : goal.returns-in-None
returns-in-None c =
    let came = c.args.came in
    let old = c.args.entries.now.entries in
    let before = ap (λ m. m.entries) c.get_mut.follows.holds-at-none in
    on_ok_weaker {P = (k : EntityKey) → at_key k c.put_under.new.entries.entries ≡ cond (same_key came.key k) (Some c.new.result) (at_key k _)} {Q = (k : EntityKey) → at_key k c.put_under.new.entries.entries ≡ put_one c.args.phase came (λ q. at_key q old) k} _
    (λ h k. came_in c.args.phase came _ c.put_under.new.entries.entries c.new.result
    (c.new.ensures ∙ ap (λ e. let s : HeldSeat = record { place = 0; phase = c.args.phase; value = entity_value e; parts = came.parts } in s) c.in_ok-entity.ensures
    ∙ sym (ap (come c.args.phase came) (ap (at_key came.key) before ∙ sym (found-at old came.key) ∙ sym c.in-None.ensures.value)))
    h k
    ∙ ap (λ es. put_one c.args.phase came (λ q. at_key q es) k) before)
    c.put_under.ensures
