-- What is of another phase is let go.
use Rattle.std.specs.Prelude.{◌≡◌, Bool, true, false, cond, [], ◌∷◌, filter, Some, None, refl}
use mathlib.Core.Bool.{beq}
use Rattle.std.proofs.Common.{◌∙◌, ap, sym}
use Rattle.rule_table.specs.declared.key.EntityKey.{EntityKey}
use Rattle.rule_table.specs.Order.{same_key}
use Rattle.engine_laws.specs.HeldFeeds.{AreApart}
use Rattle.entity_index.specs.Held.{at_key}
use Rattle.entity_index.specs.Seats.{HeldSeat, Seats}
use Rattle.entity_index.specs.Put.{staying}
use Rattle.entity_index.proofs.AtKey.{at_first, at_later}
use Rattle.entity_index.proofs.Coming.{no_more}

-- what is left is what stays
pub those_left : (phase : Bool) (es : Seats) → AreApart es → (k : EntityKey) → at_key k (filter (λ (e : EntityKey × HeldSeat). beq e.1.phase phase) es) ≡ staying phase (at_key k es)
those_left phase [] a k = refl
those_left phase (e ∷ es) a k = either (same_key e.0 k) refl (beq e.1.phase phase) refl (those_left phase es a.1 k)
  where
    left : Seats
    left = filter (λ (x : EntityKey × HeldSeat). beq x.1.phase phase) es

    either : (b : Bool) → same_key e.0 k ≡ b → (c : Bool) → beq e.1.phase phase ≡ c → at_key k left ≡ staying phase (at_key k es) →
        at_key k (cond (beq e.1.phase phase) (e ∷ left) left) ≡ staying phase (at_key k (e ∷ es))
    either true m true p rest =
        ap (λ c. at_key k (cond c (e ∷ left) left)) p ∙ at_first e left k m ∙ sym (ap (staying phase) (at_first e es k m) ∙ ap (λ c. cond c (Some e.1) None) p)
    either true m false p rest =
        ap (λ c. at_key k (cond c (e ∷ left) left)) p ∙ rest ∙ ap (staying phase) (no_more e.0 k es m a.0) ∙ sym (ap (staying phase) (at_first e es k m) ∙ ap (λ c. cond c (Some e.1) None) p)
    either false m true p rest = ap (λ c. at_key k (cond c (e ∷ left) left)) p ∙ at_later e left k m ∙ rest ∙ sym (ap (staying phase) (at_later e es k m))
    either false m false p rest = ap (λ c. at_key k (cond c (e ∷ left) left)) p ∙ rest ∙ sym (ap (staying phase) (at_later e es k m))
