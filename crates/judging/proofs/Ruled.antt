-- The findings of rules at an entity, rule by rule, are those of all rules.
use Rattle.std.specs.Prelude.{◌≡◌, ℕ, ◌==◌, Bool, true, false, ◌||◌, List, [], ◌∷◌, ◌++◌, filter, Option, slice_get, cond, refl}
use Rattle.std.specs.List.{list_all}
use Rattle.std.proofs.Common.{sym, ap, ◌∙◌}
use Rattle.std.proofs.lemmas.List.Elements.{filter-append}
use borrow.Author.Tests.{eqb-true}
use Rattle.std.proofs.lemmas.Bool.{and_parts, or_parts}
use Rattle.std.proofs.lemmas.Option.{same_Some}
use Rattle.std.proofs.lemmas.List.{append-nil}
use Rattle.feed_values.specs.declared.slot.Slot.{Slot}
use Rattle.feed_values.specs.declared.cell_value.CellValue.{CellValue}
use Rattle.feed_values.specs.Schema.{Value}
use Rattle.feed_values.specs.Messages.{entity}
use Rattle.rule_table.specs.declared.rule.RuleId.{RuleId}
use Rattle.rule_table.specs.declared.ask.Ask.{Ask}
use Rattle.rule_table.specs.declared.key.EntityKey.{EntityKey}
use Rattle.rule_table.specs.EachRule.{numbered}
use Rattle.rule_table.specs.Rules.{rule_number, same_rule}
use Rattle.rule_table.specs.Table.{all_rules, slots_of}
use Rattle.rule_table.specs.Found.{Found}
use Rattle.rule_table.specs.Judged.{found_in, found_by, found_all}
use Rattle.rule_table.specs.Groups.{IsOf, IsUnder, has_rule, has_number, are_apart}
use Rattle.rule_table.specs.GroupLaws.{each_weaken, row_own, apart_first, apart_rest}
use Rattle.rule_table.specs.CitedLaws.{both_same}
use Rattle.judging.specs.Ruled.{of_rule, by_rule}
use Rattle.judging.proofs.ByRule.{filter_when}

-- ---- lists

-- ---- rules by their numbers
same_is : (q r : RuleId) → same_rule q r ≡ true → q ≡ r
same_is q r h = same_Some q r (sym (numbered q) ∙ ap (λ n. slice_get all_rules n) (eqb-true (rule_number q) (rule_number r) h) ∙ numbered r)

abbrev is_empty : List Slot → Bool
is_empty [] = true
is_empty (s ∷ slots) = false

-- a rule that is one of some, or has no place at an entity
abbrev pub is_covered : List RuleId → RuleId → Bool
is_covered rules r = has_rule rules r || is_empty (slots_of r)

-- ---- the findings of one rule among those of some
module _ (answer : Ask → Option CellValue) (k : EntityKey) (e : Value entity) where
  picked_one : (r q : RuleId) → filter (of_rule r) (found_by q answer k e) ≡ cond (same_rule q r) (found_by q answer k e) []
  picked_one r q =
      filter_when (of_rule r) (same_rule q r) (found_by q answer k e)
      (each_weaken (IsOf (q ∷ []) (IsUnder k)) (λ f. of_rule r f ≡ same_rule q r) (λ f o. its_rule f o.rule) (found_by q answer k e) (row_own q answer k e))
    where
      one : (n m : ℕ) → ((n == m) || false) ≡ true → n ≡ m
      one n m h = eqb-true n m (kept (n == m) h) where
        kept : (b : Bool) → (b || false) ≡ true → b ≡ true
        kept true h = refl
        kept false h = cc

      its_rule : (f : Found) → has_rule (q ∷ []) f.rule ≡ true → of_rule r f ≡ same_rule q r
      its_rule f h = ap (λ n. n == rule_number r) (sym (one (rule_number q) (rule_number f.rule) h))

  pub picked : (r : RuleId) (rules : List RuleId) → are_apart rules ≡ true → filter (of_rule r) (found_all rules answer k e) ≡ cond (has_rule rules r) (found_by r answer k e) []
  picked r [] a = refl
  picked r (q ∷ rules) a =
      filter-append (of_rule r) (found_by q answer k e) (found_all rules answer k e)
      ∙ both_same (picked_one r q) (picked r rules (apart_rest q rules a))
      ∙ joined (same_rule q r) refl
    where
      none : (has_rule rules q || false) ≡ false → rule_number q ≡ rule_number r → has_rule rules r ≡ false
      none h n = sym (ap (has_number rules) n) ∙ (or_parts (has_rule rules q) false h).0

      joined : (b : Bool) → same_rule q r ≡ b → (cond b (found_by q answer k e) [] ++ cond (has_rule rules r) (found_by r answer k e) []) ≡ cond (b || has_rule rules r) (found_by r answer k e) []
      joined false h = refl
      joined true h =
          ap (λ c. found_by q answer k e ++ cond c (found_by r answer k e) []) (none (apart_first q rules a) (eqb-true (rule_number q) (rule_number r) h))
          ∙ append-nil (found_by q answer k e) ∙ ap (λ s. found_by s answer k e) (same_is q r h)

  -- ---- and those of a list of rules, rule by rule
  no_places : (r : RuleId) (slots : List Slot) → is_empty slots ≡ true → found_in r answer k e slots ≡ []
  no_places r [] h = refl
  no_places r (s ∷ slots) h = cc

  rule_is : (r : RuleId) (b : Bool) → (b || is_empty (slots_of r)) ≡ true → cond b (found_by r answer k e) [] ≡ found_by r answer k e
  rule_is r true h = refl
  rule_is r false h = sym (no_places r (slots_of r) h)

  pub ruled : (rules all : List RuleId) → are_apart rules ≡ true → list_all (is_covered rules) all ≡ true → by_rule all (found_all rules answer k e) ≡ found_all all answer k e
  ruled rules [] a h = refl
  ruled rules (r ∷ all) a h =
      let hs = and_parts (is_covered rules r) (list_all (is_covered rules) all) h in
      both_same (picked r rules a ∙ rule_is r (has_rule rules r) hs.0) (ruled rules all a hs.1)
