-- Slots of an entity at which rules are known to break nowhere.
use Rattle.std.specs.Prelude.{◌≡◌, ◌⊎◌, List, [], ◌∷◌, Option, Some}
use Rattle.feed_values.specs.Schema.{Value}
use Rattle.feed_values.specs.Messages.{entity}
use Rattle.feed_values.specs.Cells.{entity_cell}
use Rattle.feed_values.specs.declared.cell_value.CellValue.{CellValue}
use Rattle.feed_values.specs.declared.path.Path.{Path}
use Rattle.feed_values.specs.declared.slot.Slot.{Slot}
use Rattle.rule_table.specs.declared.ask.Ask.{Ask}
use Rattle.rule_table.specs.declared.ask.Ask.TheVariants as ask
use Rattle.rule_table.specs.declared.key.EntityKey.{EntityKey}
use Rattle.rule_table.specs.declared.rule.RuleId.{RuleId}
use Rattle.rule_table.specs.Groups.{Each}
use Rattle.rule_table.specs.Judged.{found_below, places_at}

abbrev pub IsAmong : {A : Type 0} → A → List A → Type 0
IsAmong x [] = ⊥
IsAmong x (y ∷ ys) = (x ≡ y) ⊎ IsAmong x ys

-- what answers has the cells of an entity
abbrev pub HasCells : (Ask → Option CellValue) → Value entity → Type 0
HasCells answer e = (p : Path) → answer (ask.Cell p) ≡ Some (entity_cell e p.slot p.index)

-- a rule has no findings at a slot of an entity
abbrev pub IsClear : (Ask → Option CellValue) → EntityKey → Value entity → RuleId × Slot → Type 0
IsClear answer key e p = found_below p.0 answer key p.1 (places_at e p.1) ≡ []

-- none of these rules has findings at its slot
abbrev pub AllClear : (Ask → Option CellValue) → EntityKey → Value entity → List (RuleId × Slot) → Type 0
AllClear answer key e pairs = Each (IsClear answer key e) pairs
