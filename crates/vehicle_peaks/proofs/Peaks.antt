-- What raises a peak, against the peak afterwards.
use Rattle.std.specs.Prelude.{◌≡◌, ℕ, nat_lt, Bool, true, false, cond, Option, Some, None, is_some, refl}
use Rattle.std.proofs.Common.{◌∙◌, ap, arith}
use Rattle.std.proofs.lemmas.Bool.Decides.{nat_tests}
use Rattle.rule_table.specs.Peaks.{greater, greatest}
use Rattle.rule_history.specs.Peaks.{stamps_in}
use Rattle.rule_history.proofs.Greater.{more}
use Rattle.vehicle_peaks.specs.Rises.{rise}
use Rattle.vehicle_peaks.specs.Laws.{RiseRaises, RiseMoves, RisesRaise, RisesMove}

pub rise-raises : RiseRaises
rise-raises peak None = refl
rise-raises None (Some n) = refl
rise-raises (Some p) (Some n) = grind (arith, nat_tests)

pub rise-moves : RiseMoves
rise-moves None None = refl
rise-moves (Some p) None = grind (arith, nat_tests)
rise-moves None (Some n) = refl
rise-moves (Some p) (Some n) = grind (arith, nat_tests)

pub rises-raise : RisesRaise
rises-raise None peaks rises h v = ap (λ o. greater o (peaks v)) (h v)
rises-raise (Some s) peaks rises h v = ap (λ o. greater o (peaks v)) (h v) ∙ rise-raises (peaks v) (greatest (stamps_in v s))

pub rises-move : RisesMove
rises-move last peaks rises h None = refl
rises-move None peaks rises h (Some v) = ap (λ (o : Option ℕ). is_some o) (h v) ∙ rise-moves (peaks v) None
rises-move (Some s) peaks rises h (Some v) = ap (λ (o : Option ℕ). is_some o) (h v) ∙ rise-moves (peaks v) (greatest (stamps_in v s))

-- ---- of the greater of two timestamps
pub rise-greater : (peak a b : Option ℕ) → rise peak (greater a b) ≡ greater (rise peak a) (rise peak b)
rise-greater peak None b = refl
rise-greater peak (Some a) None = none (rise peak (Some a))
  where
    none : (o : Option ℕ) → o ≡ greater o None
    none None = refl
    none (Some n) = refl
rise-greater None (Some a) (Some b) = refl
rise-greater (Some p) (Some a) (Some b) = each (nat_lt p a) (nat_lt p b) refl refl
  where
    over : (c d : Bool) → Option ℕ
    over c d = greater (cond c (Some a) None) (cond d (Some b) None)

    each : (c d : Bool) → nat_lt p a ≡ c → nat_lt p b ≡ d → cond (nat_lt p (more a b)) (Some (more a b)) None ≡ over c d
    each true true h i = grind (arith, nat_tests)
    each true false h i = grind (arith, nat_tests)
    each false true h i = grind (arith, nat_tests)
    each false false h i = grind (arith, nat_tests)
