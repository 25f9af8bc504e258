-- Periods and selectors, as messages hold them.
use Rattle.std.proofs.Common.{◌≡◌, ◌≤◌, ℕ, Bool, ◌++◌, ◌||◌, List, [], ◌∷◌, length, map, refl, ap, arith}
use Rattle.std.specs.List.{flat_map, list_any}
use Rattle.feed_values.specs.Views.{time_range_value}
use Rattle.feed_values.specs.declared.time_range.TimeRange.{TimeRange}
use Rattle.alert_terms.specs.InForce.{bounds_of, is_active, is_open, period_of}

-- the bounds of a period
abbrev pub range_bounds : TimeRange → List ℕ
range_bounds range = bounds_of (period_of (time_range_value range))

-- those of all periods
pub bounds_same : (ranges : List TimeRange) → flat_map range_bounds ranges ≡ flat_map bounds_of (map period_of (map time_range_value ranges))
bounds_same [] = refl
bounds_same (range ∷ ranges) = ap (λ bs. range_bounds range ++ bs) (bounds_same ranges)

-- whether one passes a test, as it is held and as what it says
pub any_same : {A B C : Type 0} (f : A → B) (g : B → C) (test : C → Bool) (xs : List A) → list_any (λ x. test (g (f x))) xs ≡ list_any test (map g (map f xs))
any_same f g test [] = refl
any_same f g test (x ∷ xs) = ap (λ b. test (g (f x)) || b) (any_same f g test xs)

-- where there is a period, one of them has to be open
pub some_active : (moment : ℕ) (ranges : List TimeRange) → 1 ≤ length ranges →
    list_any (is_open moment) (map period_of (map time_range_value ranges)) ≡ is_active moment (map period_of (map time_range_value ranges))
some_active moment [] l = absurd (omega (arith, l))
some_active moment (range ∷ ranges) l = refl
