-- Steps towards a row that isn't broken: its entries one after the other.
use Rattle.std.proofs.Common.{inl, inr, sym, ◌∙◌, subst}
use Rattle.std.specs.Prelude.{◌≡◌, ℕ, Bool, true, false, cond, List, [], ◌∷◌, Option, Some, None, option_map, refl}
use Rattle.feed_values.specs.Schema.{Value}
use Rattle.feed_values.specs.Messages.{entity}
use Rattle.feed_values.specs.declared.slot.Slot.{Slot}
use Rattle.feed_values.specs.declared.cell_value.CellValue.{CellValue}
use Rattle.rule_table.specs.declared.ask.Ask.{Ask}
use Rattle.rule_table.specs.declared.fact.Fact.{Fact}
use Rattle.rule_table.specs.declared.key.EntityKey.{EntityKey}
use Rattle.rule_table.specs.declared.place.Place.TheVariants as place
use Rattle.rule_table.specs.declared.rule.RuleId.{RuleId}
use Rattle.rule_table.specs.Asked.{in_range, with_both}
use Rattle.rule_table.specs.Cited.{and_then, answered, broken_from, value_then}
use Rattle.rule_table.specs.Table.{cites_of, test_of}
use Rattle.rule_table.specs.Judged.{found_at, found_below, places_at}
use Rattle.rule_table.specs.ClearSlots.{IsClear, IsAmong}
use Rattle.rule_table.specs.Groups.{Each}
use Rattle.rule_table.proofs.Formed.{unbroken, broken-cited}

-- ---- entries one after the other, for whatever answers
module _ (answer : Ask → Option CellValue) where
  -- after an answer that is known
  pub after : (f : CellValue → Bool) (q : Ask) (v : CellValue) → answer q ≡ Some v → f v ≡ false → value_then (option_map (λ x. x.value) (answered q (answer q))) f ≡ false
  after f q v h g = rw h (kept (in_range v))
    where
      kept : (b : Bool) → value_then (option_map (λ x. x.value) (cond b (let some : Option Fact = Some (record { ask = q; value = v }) in some) None)) f ≡ false
      kept true = g
      kept false = refl

  -- after an ask about a trip, where there is one
  pub after_one : (f : CellValue → Bool) (make : List ℕ → Ask) (trip : Option (List ℕ))
      → ((x : List ℕ) → trip ≡ Some x → value_then (option_map (λ y. y.value) (answered (make x) (answer (make x)))) f ≡ false)
      → value_then (option_map (λ y. y.value) (and_then (option_map make trip) (λ q. answered q (answer q)))) f ≡ false
  after_one f make None h = refl
  after_one f make (Some x) h = h x refl

  -- after an ask about a trip and a stop_sequence, where there are both
  pub after_both : (f : CellValue → Bool) (make : List ℕ → ℕ → Ask) (trip : Option (List ℕ)) (sequence : Option ℕ)
      → ((x : List ℕ) (n : ℕ) → trip ≡ Some x → sequence ≡ Some n → value_then (option_map (λ y. y.value) (answered (make x n) (answer (make x n)))) f ≡ false)
      → value_then (option_map (λ y. y.value) (and_then (with_both make trip sequence) (λ q. answered q (answer q)))) f ≡ false
  after_both f make None sequence h = refl
  after_both f make (Some x) None h = refl
  after_both f make (Some x) (Some n) h = h x n refl refl

  pub none_found : (rule : RuleId) (key : EntityKey) (s : Slot) (i : ℕ)
      → broken_from answer (place.Entity key (record { slot = s; index = i })) (test_of rule) [] (cites_of rule) ≡ false
      → found_at rule answer (place.Entity key (record { slot = s; index = i })) ≡ []
  none_found rule key s i h =
      let at = place.Entity key (record { slot = s; index = i }) in
      unbroken rule answer at (sym (broken-cited answer at (test_of rule) [] (cites_of rule)) ∙ h)

-- a rule is clear at a slot that is among those of what is clear
pub clear_there : (answer : Ask → Option CellValue) (key : EntityKey) (e : Value entity) (rule : RuleId) (s : Slot) (pairs : List (RuleId × Slot))
    → Each (IsClear answer key e) pairs → IsAmong (rule, s) pairs → found_below rule answer key s (places_at e s) ≡ []
clear_there answer key e rule s [] h m = absurd m
clear_there answer key e rule s (p ∷ pairs) h (inl one) = subst (IsClear answer key e) (sym one) h.0
clear_there answer key e rule s (p ∷ pairs) h (inr more) = clear_there answer key e rule s pairs h.1 more
