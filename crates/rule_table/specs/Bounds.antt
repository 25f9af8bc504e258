-- What a timestamp of an entity may not pass.
use Rattle.std.specs.Prelude.{◌≡◌, ℕ, ◌+◌, ◌<◌, ◌^◌, ◌⊎◌, ◌==◌, ◌||◌, ℤ, pos, ◌<ℤ◌, Bool, true, List, [], ◌∷◌, Option, Some}
use Rattle.feed_values.specs.declared.slot.Slot.{Slot}
use Rattle.feed_values.specs.declared.slot.Slot.TheVariants.{S29, S59}
use Rattle.feed_values.specs.declared.cell_value.CellValue.{CellValue}
use Rattle.feed_values.specs.declared.cell_value.CellValue.TheVariants.{Number}
use Rattle.feed_values.specs.Schema.{Value}
use Rattle.feed_values.specs.Messages.{entity}
use Rattle.feed_values.specs.Cells.{entity_cell, number_cell}
use Rattle.rule_table.specs.declared.bound_rule.Bound.{Bound}
use Rattle.rule_table.specs.declared.bound_rule.Bound.TheVariants.{Header, Moment}
use Rattle.rule_table.specs.declared.rule.RuleId.{RuleId}
use Rattle.rule_table.specs.declared.key.EntityKey.{EntityKey}
use Rattle.rule_table.specs.declared.place.Place.{Place}
use Rattle.rule_table.specs.declared.place.Place.TheVariants as place
use Rattle.rule_table.specs.Asked.{in_range}
use Rattle.rule_table.specs.Order.{slot_number}
use Rattle.rule_table.specs.Found.{Found}
use Rattle.rule_table.specs.Groups.{Each}

-- the bound that a rule has, where there is one: the header's timestamp, or a minute after the moment
abbrev pub bound_at : Bound → Option ℤ → ℕ → Option ℤ
bound_at Header timestamp moment = timestamp
bound_at Moment timestamp moment = Some (pos (moment + 60))

abbrev pub IsAbove : CellValue → Option ℤ → Type 0
IsAbove (Number n) (Some b) = b <ℤ n
IsAbove _ _ = ⊥

-- a rule stands at a place among some findings
abbrev pub StandsAt : List Found → RuleId → Place → Type 0
StandsAt [] rule at = ⊥
StandsAt (f ∷ fs) rule at = ((f.rule ≡ rule) × (f.place ≡ at)) ⊎ StandsAt fs rule at

-- whether a slot is the timestamp of a trip update or of a vehicle position
abbrev pub is_timestamp : Slot → Bool
is_timestamp s = slot_number s == slot_number S29 || slot_number s == slot_number S59

abbrev pub stamp_at : EntityKey → Slot → Place
stamp_at k s = place.Entity k (record { slot = s; index = 0 })

-- a place is at a timestamp of the entity with a key
pub record IsStamp (k : EntityKey) (at : Place) : Type 0 where
  pub slot : Slot
  pub timestamp : is_timestamp slot ≡ true
  pub here : at ≡ stamp_at k slot

abbrev pub AreAtStamps : EntityKey → List Found → Type 0
AreAtStamps k fs = Each (λ f. IsStamp k f.place) fs

-- timestamps and a moment as they are held: from 0 to 2^64 - 1
pub record AreHeld (timestamp : Option ℤ) (moment : ℕ) (e : Value entity) (s : Slot) : Type 0 where
  pub header : in_range (number_cell timestamp) ≡ true
  pub moment_fits : moment < 2 ^ 64
  pub cell : in_range (entity_cell e s 0) ≡ true
