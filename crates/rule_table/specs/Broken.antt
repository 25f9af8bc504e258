-- When facts break a rule at a place. This sees the rule, the place and the facts, and nothing else.
use Rattle.std.specs.Prelude.{◌≡◌, ◌≤◌, true, false, List, [], ◌∷◌, ◌++◌, Some}
use Rattle.std.specs.List.{Contains}
use Rattle.feed_values.specs.declared.cell_value.CellValue.{CellValue}
use Rattle.feed_values.specs.Cells.{has_item, way}
use Rattle.rule_table.specs.declared.rule.RuleId.{RuleId}
use Rattle.rule_table.specs.declared.row.Cite.{Cite}
use Rattle.rule_table.specs.declared.place.Place.{Place}
use Rattle.rule_table.specs.declared.fact.Fact.{Fact}
use Rattle.rule_table.specs.Table.{first_of}
use Rattle.rule_table.specs.Rows.{slots_at, cites_at, test_at}
use Rattle.rule_table.specs.Asked.{slot_of, index_of, ask_at, in_range}
use Rattle.rule_table.specs.Passed.{passes}
use Rattle.rule_table.specs.Cited.{values_of}

-- the row lists the slot for a place of its kind, and allows the index there
pub record IsPlace (rule : RuleId) (at : Place) : Type 0 where
  pub listed : Contains (slots_at rule at) (slot_of at)
  pub first : first_of rule ≤ index_of at
  pub plain : has_item (way (slot_of at)) ≡ false → index_of at ≡ 0

-- the facts have the asks of the row's entries at the place, in order, with the keys that the values before them give,
-- and values within the bounds of all answers
abbrev pub IsFormed : Place → List CellValue → List Cite → List Fact → Type 0
IsFormed at vs [] [] = Unit {0}
IsFormed at vs [] (f ∷ fs) = ⊥
IsFormed at vs (c ∷ cs) [] = ⊥
IsFormed at vs (c ∷ cs) (f ∷ fs) = (ask_at at vs c ≡ Some f.ask) × (in_range f.value ≡ true) × IsFormed at (vs ++ f.value ∷ []) cs fs

-- the facts break the rule at the place
pub record Breaks (rule : RuleId) (at : Place) (facts : List Fact) : Type 0 where
  pub place : IsPlace rule at
  pub formed : IsFormed at [] (cites_at rule at) facts
  pub broken : passes at (test_at rule at) (values_of facts) ≡ true
