-- The findings of a rule at an entity and on a header, for whatever answers.
use Rattle.std.specs.Prelude.{ℕ, nat_le, zero, suc, List, [], ◌∷◌, ◌++◌, length, Option, Some, None, if◌then◌else◌}
use Rattle.feed_values.specs.declared.slot.Slot.{Slot}
use Rattle.feed_values.specs.declared.cell_value.CellValue.{CellValue}
use Rattle.feed_values.specs.Schema.{Value}
use Rattle.feed_values.specs.Messages.{entity, trip_update, alert}
use Rattle.feed_values.specs.Cells.{has_item_of, way}
use Rattle.rule_table.specs.declared.rule.RuleId.{RuleId}
use Rattle.rule_table.specs.declared.key.EntityKey.{EntityKey}
use Rattle.rule_table.specs.declared.place.Place.{Place}
use Rattle.rule_table.specs.declared.place.Place.TheVariants as place
use Rattle.rule_table.specs.declared.ask.Ask.{Ask}
use Rattle.rule_table.specs.declared.fact.Fact.{Fact}
use Rattle.rule_table.specs.Table.{slots_of, head_slots_of, first_of}
use Rattle.rule_table.specs.Rows.{cites_at, test_at}
use Rattle.rule_table.specs.Asked.{index_of}
use Rattle.rule_table.specs.Cited.{cited, values_of}
use Rattle.rule_table.specs.Passed.{passes}
use Rattle.rule_table.specs.Found.{Found}

-- ---- how many places an entity has at a slot
-- the messages of an entity
abbrev pub update_of : Value entity → Option (Value trip_update)
update_of e = e.1.1.0

abbrev pub alert_of : Value entity → Option (Value alert)
alert_of e = e.1.1.1.1.0

abbrev pub updates_in : Option (Value trip_update) → ℕ
updates_in None = 0
updates_in (Some u) = length u.1.0

abbrev pub periods_in : Option (Value alert) → ℕ
periods_in None = 0
periods_in (Some a) = length a.0

abbrev pub selectors_in : Option (Value alert) → ℕ
selectors_in None = 0
selectors_in (Some a) = length a.1.0

-- one for each item of the list that the slot leads through, and one where it leads through none
abbrev pub places_at : Value entity → Slot → ℕ
places_at e s =
    if has_item_of "stop_time_update" (way s) then updates_in (update_of e) else
    if has_item_of "active_period" (way s) then periods_in (alert_of e) else
    if has_item_of "informed_entity" (way s) then selectors_in (alert_of e) else 1

-- ---- findings
abbrev pub found_of : RuleId → Place → Option (List Fact) → List Found
found_of rule at None = []
found_of rule at (Some facts) = if passes at (test_at rule at) (values_of facts) then record { rule = rule; place = at; facts = facts } ∷ [] else []

-- the findings of a rule at one place: one where the facts that it cites there break it, and else none
abbrev pub found_at : RuleId → (Ask → Option CellValue) → Place → List Found
found_at rule answer at = if nat_le (first_of rule) (index_of at) then found_of rule at (cited answer at [] (cites_at rule at)) else []

-- at a slot of an entity, below an index
abbrev pub found_below : RuleId → (Ask → Option CellValue) → EntityKey → Slot → ℕ → List Found
found_below rule answer key s zero = []
found_below rule answer key s (suc i) = found_below rule answer key s i ++ found_at rule answer (place.Entity key (record { slot = s; index = i }))

-- at some slots of an entity
abbrev pub found_in : RuleId → (Ask → Option CellValue) → EntityKey → Value entity → List Slot → List Found
found_in rule answer key e [] = []
found_in rule answer key e (s ∷ slots) = found_below rule answer key s (places_at e s) ++ found_in rule answer key e slots

-- the findings of a rule at an entity, by slot and index
abbrev pub found_by : RuleId → (Ask → Option CellValue) → EntityKey → Value entity → List Found
found_by rule answer key e = found_in rule answer key e (slots_of rule)

-- those of some rules, one rule after the other
abbrev pub found_all : List RuleId → (Ask → Option CellValue) → EntityKey → Value entity → List Found
found_all [] answer key e = []
found_all (rule ∷ rules) answer key e = found_by rule answer key e ++ found_all rules answer key e

-- at some slots of a header
abbrev pub found_on : RuleId → (Ask → Option CellValue) → ℕ → List Slot → List Found
found_on rule answer feed [] = []
found_on rule answer feed (s ∷ slots) = found_at rule answer (place.Head feed s) ++ found_on rule answer feed slots

-- the findings of a rule on the header of a feed
abbrev pub head_found_by : RuleId → (Ask → Option CellValue) → ℕ → List Found
head_found_by rule answer feed = found_on rule answer feed (head_slots_of rule)

abbrev pub head_found_all : List RuleId → (Ask → Option CellValue) → ℕ → List Found
head_found_all [] answer feed = []
head_found_all (rule ∷ rules) answer feed = head_found_by rule answer feed ++ head_found_all rules answer feed
