-- Laws of two groups of pairing or bound rules, one after the other.
use Rattle.std.specs.Prelude.{◌≡◌, ℕ, ◌||◌, ◌==◌, ◌↔◌, ◌⊎◌, ℤ, true, false, List, [], ◌∷◌, ◌++◌, Option, cond, refl}
use Rattle.std.specs.List.{list_any}
use Rattle.std.proofs.Common.{inl, inr, sym, ap, ◌∙◌}
use Rattle.feed_values.specs.declared.cell_value.CellValue.{CellValue}
use Rattle.rule_table.specs.declared.bound_rule.Bound.{Bound}
use Rattle.rule_table.specs.declared.rule.RuleId.{RuleId}
use Rattle.rule_table.specs.declared.place.Place.{Place}
use Rattle.rule_table.specs.Found.{Found}
use Rattle.rule_table.specs.Rules.{rule_number}
use Rattle.rule_table.specs.Groups.{AreOf, NoneInBoth, has_rule, has_number}
use Rattle.rule_table.specs.GroupLaws.{any_both}
use Rattle.rule_table.specs.Bounds.{bound_at, IsAbove, StandsAt}

pub both_none : {a b : List Found} → a ≡ [] → b ≡ [] → (a ++ b) ≡ []
both_none h k = cc

pub stands_left : (xs ys : List Found) (rule : RuleId) (p : Place) → StandsAt xs rule p → StandsAt (xs ++ ys) rule p
stands_left [] ys rule p h = absurd h
stands_left (x ∷ xs) ys rule p (inl e) = inl e
stands_left (x ∷ xs) ys rule p (inr h) = inr (stands_left xs ys rule p h)

pub stands_right : (xs ys : List Found) (rule : RuleId) (p : Place) → StandsAt ys rule p → StandsAt (xs ++ ys) rule p
stands_right [] ys rule p h = h
stands_right (x ∷ xs) ys rule p h = inr (stands_right xs ys rule p h)

pub stands_either : (xs ys : List Found) (rule : RuleId) (p : Place) → StandsAt (xs ++ ys) rule p → StandsAt xs rule p ⊎ StandsAt ys rule p
stands_either [] ys rule p h = inr h
stands_either (x ∷ xs) ys rule p (inl e) = inl (inl e)
stands_either (x ∷ xs) ys rule p (inr h) = elim (stands_either xs ys rule p h) [ inl l ↦ inl (inr l) | inr r ↦ inr r ]

-- a rule that stands is one of the list
pub rule_of : (rules : List RuleId) (P : Place → Type 0) (xs : List Found) (rule : RuleId) (p : Place) → AreOf rules P xs → StandsAt xs rule p → has_rule rules rule ≡ true
rule_of rules P [] rule p own h = absurd h
rule_of rules P (x ∷ xs) rule p own (inl e) = ap (has_rule rules) (sym e.0) ∙ own.0.rule
rule_of rules P (x ∷ xs) rule p own (inr h) = rule_of rules P xs rule p own.1 h

not_both : (ra rb : List RuleId) → NoneInBoth ra rb → (rule : RuleId) → has_rule ra rule ≡ true → has_rule rb rule ≡ true → ⊥
not_both ra rb n rule a b = let t : list_any (has_rule rb) ra ≡ true = any_both ra rb (rule_number rule) a b in cc (n, t)

has_second : (ra rb : List RuleId) (n : ℕ) → has_number ra n ≡ false → has_number (ra ++ rb) n ≡ true → has_number rb n ≡ true
has_second [] rb n h m = m
has_second (r ∷ ra) rb n h m =
    elim (rule_number r == n) as (λ b. (b || has_number ra n) ≡ false → (b || has_number (ra ++ rb) n) ≡ true → has_number rb n ≡ true) [
      | true ↦ λ h _. cc
      | false ↦ λ h m. has_second ra rb n h m
    ] h m

pub both_exact : (ra rb : List RuleId) → NoneInBoth ra rb → (P : Place → Type 0) (xs ys : List Found) → AreOf ra P xs → AreOf rb P ys →
    (rule : RuleId) (p : Place) (cell : CellValue) (ba bb : Bound) (t : Option ℤ) (m : ℕ) →
    (has_rule ra rule ≡ true → StandsAt xs rule p ↔ IsAbove cell (bound_at ba t m)) →
    (has_rule rb rule ≡ true → StandsAt ys rule p ↔ IsAbove cell (bound_at bb t m)) →
    has_rule (ra ++ rb) rule ≡ true →
    StandsAt (xs ++ ys) rule p ↔ IsAbove cell (bound_at (cond (has_rule ra rule) ba bb) t m)
both_exact ra rb n P xs ys oa ob rule p cell ba bb t m ha hb has =
    elim (has_rule ra rule) as (λ b. has_rule ra rule ≡ b → StandsAt (xs ++ ys) rule p ↔ IsAbove cell (bound_at (cond b ba bb) t m)) [
      | true ↦ λ a. (λ s. elim (stands_either xs ys rule p s) [ inl l ↦ (ha a).0 l | inr r ↦ absurd (not_both ra rb n rule a (rule_of rb P ys rule p ob r)) ], λ i. stands_left xs ys rule p ((ha a).1 i))
      | false ↦ λ a.
          let b : has_rule rb rule ≡ true = has_second ra rb (rule_number rule) a has in
          (λ s. elim (stands_either xs ys rule p s) [ inl l ↦ absurd (never a (rule_of ra P xs rule p oa l)) | inr r ↦ (hb b).0 r ], λ i. stands_right xs ys rule p ((hb b).1 i))
    ] refl
  where
    never : has_rule ra rule ≡ false → has_rule ra rule ≡ true → ⊥
    never a b = cc (a, b)
