-- Laws of the findings of rules on a header, one rule after the other.
use Rattle.std.specs.Prelude.{◌≡◌, ℕ, ◌+◌, ◌≤◌, nat_le, true, List, [], ◌∷◌, Option, refl}
use Rattle.std.proofs.Common.{ap, ◌∙◌, sym, subst, arith}
use borrow.Author.Tests.{leb-true}
use Rattle.std.proofs.lemmas.Bool.{and_parts}
use Rattle.feed_values.specs.declared.slot.Slot.{Slot}
use Rattle.feed_values.specs.declared.cell_value.CellValue.{CellValue}
use Rattle.rule_table.specs.declared.rule.RuleId.{RuleId}
use Rattle.rule_table.specs.declared.place.Place.{Place}
use Rattle.rule_table.specs.declared.place.Place.TheVariants as place
use Rattle.rule_table.specs.declared.ask.Ask.{Ask}
use Rattle.rule_table.specs.Order.{slot_number}
use Rattle.rule_table.specs.EachRule.{each_rule}
use Rattle.rule_table.specs.Table.{head_slots_of}
use Rattle.rule_table.specs.Judged.{found_at, found_on, head_found_by, head_found_all}
use Rattle.rule_table.specs.Groups.{Each, Once, IsOf, AreOf, IsOn, has_rule, are_apart}
use Rattle.rule_table.specs.GroupLaws.{Stands, each_append, each_weaken, all_weaker, at_place, once_at, once_apart, rise, is_one, apart_first, apart_rest, both_own, both_once}

-- at a slot of a header that is numbered from n on
record OnFrom (f n : ℕ) (q : Place) : Type 0 where
  pub slot : Slot
  pub is : q ≡ place.Head f slot
  pub from : n ≤ slot_number slot

each_on : (rule : RuleId) (answer : Ask → Option CellValue) (f n : ℕ) (slots : List Slot) → rise n slots ≡ true → Each (Stands rule (OnFrom f n)) (found_on rule answer f slots)
each_on rule answer f n [] h = tt
each_on rule answer f n (s ∷ slots) h =
    let first : n ≤ slot_number s = leb-true n (slot_number s) (and_parts (nat_le n (slot_number s)) (rise (slot_number s + 1) slots) h).0 in
    let rest : rise (slot_number s + 1) slots ≡ true = (and_parts (nat_le n (slot_number s)) (rise (slot_number s + 1) slots) h).1 in
    each_append (Stands rule (OnFrom f n)) (found_at rule answer (place.Head f s)) (found_on rule answer f slots)
    (all_weaker rule (λ q. q ≡ place.Head f s) (OnFrom f n) (λ q e. record { slot = s; is = e; from = first })
    (found_at rule answer (place.Head f s)) (at_place rule answer (place.Head f s)))
    (all_weaker rule (OnFrom f (slot_number s + 1)) (OnFrom f n)
    (λ q o. record { slot = o.slot; is = o.is; from = on n (slot_number s) (slot_number o.slot) first o.from })
    (found_on rule answer f slots) (each_on rule answer f (slot_number s + 1) slots rest))
  where
    on : (a b c : ℕ) → a ≤ b → b + 1 ≤ c → a ≤ c
    on a b c h m = omega arith

same_slots : (f : ℕ) (s t : Slot) → place.Head f s ≡ place.Head f t → s ≡ t
same_slots f s t h = cc

once_on : (rule : RuleId) (answer : Ask → Option CellValue) (f n : ℕ) (slots : List Slot) → rise n slots ≡ true → Once (found_on rule answer f slots)
once_on rule answer f n [] h = tt
once_on rule answer f n (s ∷ slots) h =
    let rest : rise (slot_number s + 1) slots ≡ true = (and_parts (nat_le n (slot_number s)) (rise (slot_number s + 1) slots) h).1 in
    once_apart rule (λ q. q ≡ place.Head f s) (OnFrom f (slot_number s + 1))
    (λ q e o. clash (slot_number s) (slot_number o.slot) o.from (ap slot_number (same_slots f s o.slot (sym e ∙ o.is))))
    (found_at rule answer (place.Head f s)) (found_on rule answer f slots)
    (at_place rule answer (place.Head f s)) (each_on rule answer f (slot_number s + 1) slots rest)
    (once_at rule answer (place.Head f s)) (once_on rule answer f (slot_number s + 1) slots rest)
  where
    clash : (a b : ℕ) → a + 1 ≤ b → a ≡ b → ⊥
    clash a b h e = omega arith

-- the slots of each rule rise
slots_rise : (rule : RuleId) → rise 0 (head_slots_of rule) ≡ true
slots_rise = each_rule (λ r. rise 0 (head_slots_of r)) refl

row_own : (rule : RuleId) (answer : Ask → Option CellValue) (f : ℕ) → AreOf (rule ∷ []) (IsOn f) (head_found_by rule answer f)
row_own rule answer f =
    each_weaken (Stands rule (OnFrom f 0)) (IsOf (rule ∷ []) (IsOn f))
    (λ x o. record {
      rule = subst (λ r. has_rule (rule ∷ []) r ≡ true) (sym o.rule_is) (is_one rule);
      place = subst (IsOn f) (sym o.at.is) refl;
    })
    (head_found_by rule answer f) (each_on rule answer f 0 (head_slots_of rule) (slots_rise rule))

pub heads_own : (rules : List RuleId) (answer : Ask → Option CellValue) (f : ℕ) → AreOf rules (IsOn f) (head_found_all rules answer f)
heads_own [] answer f = tt
heads_own (rule ∷ rules) answer f =
    both_own (rule ∷ []) rules (IsOn f) (head_found_by rule answer f) (head_found_all rules answer f) (row_own rule answer f) (heads_own rules answer f)

pub heads_once : (rules : List RuleId) (answer : Ask → Option CellValue) (f : ℕ) → are_apart rules ≡ true → Once (head_found_all rules answer f)
heads_once [] answer f h = tt
heads_once (rule ∷ rules) answer f h =
    both_once (rule ∷ []) rules (IsOn f) (head_found_by rule answer f) (head_found_all rules answer f) (apart_first rule rules h)
    (row_own rule answer f) (heads_own rules answer f) (once_on rule answer f 0 (head_slots_of rule) (slots_rise rule)) (heads_once rules answer f (apart_rest rule rules h))
