-- When facts break a rule at a place, as a Bool that computes. `does_break_is` of the laws says that it is `Breaks`.
use Rattle.std.specs.Prelude.{◌≡◌, ◌↔◌, ◌==◌, Bool, true, false, ◌&&◌, ◌||◌, nat_le, List, [], ◌∷◌, ◌++◌, Option, Some, None}
use Rattle.std.specs.List.{list_any}
use Rattle.feed_values.specs.declared.cell_value.CellValue.{CellValue}
use Rattle.feed_values.specs.declared.slot.Slot.{Slot}
use Rattle.feed_values.specs.Cells.{has_item, way}
use Rattle.rule_table.specs.declared.ask.Ask.{Ask}
use Rattle.rule_table.specs.declared.rule.RuleId.{RuleId}
use Rattle.rule_table.specs.declared.row.Cite.{Cite}
use Rattle.rule_table.specs.declared.place.Place.{Place}
use Rattle.rule_table.specs.declared.fact.Fact.{Fact}
use Rattle.rule_table.specs.Table.{first_of}
use Rattle.rule_table.specs.Rows.{slots_at, cites_at, test_at}
use Rattle.rule_table.specs.Asked.{slot_of, index_of, ask_at, in_range}
use Rattle.rule_table.specs.Broken.{Breaks}
use Rattle.rule_table.specs.Cited.{values_of}
use Rattle.rule_table.specs.Order.{slot_number}
use Rattle.rule_table.specs.Passed.{passes}
use Rattle.rule_table.specs.SameFacts.{same_ask}

-- whether a rule's row lists a slot
abbrev pub is_listed : List Slot → Slot → Bool
is_listed slots slot = list_any (λ listed. slot_number slot == slot_number listed) slots

-- whether a rule has a place
abbrev pub has_place : RuleId → Place → Bool
has_place rule at = is_listed (slots_at rule at) (slot_of at) && (nat_le (first_of rule) (index_of at) && (has_item (way (slot_of at)) || index_of at == 0))

-- whether an entry's ask is this one
abbrev pub is_asked : Option Ask → Ask → Bool
is_asked None a = false
is_asked (Some asked) a = same_ask asked a

-- whether facts have the asks of entries, and values within the bounds of all answers
abbrev pub are_formed : Place → List CellValue → List Cite → List Fact → Bool
are_formed at vs [] [] = true
are_formed at vs [] (f ∷ fs) = false
are_formed at vs (c ∷ cs) [] = false
are_formed at vs (c ∷ cs) (f ∷ fs) = is_asked (ask_at at vs c) f.ask && (in_range f.value && are_formed at (vs ++ f.value ∷ []) cs fs)

-- whether facts break a rule at a place
abbrev pub does_break : RuleId → Place → List Fact → Bool
does_break rule at facts = has_place rule at && (are_formed at [] (cites_at rule at) facts && passes at (test_at rule at) (values_of facts))

-- it is what `Breaks` says
abbrev pub DoesBreakIs : Type 0
DoesBreakIs = (rule : RuleId) (at : Place) (facts : List Fact) → (does_break rule at facts ≡ true) ↔ Breaks rule at facts
