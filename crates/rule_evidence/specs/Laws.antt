-- Laws of the definitions.
use Rattle.std.specs.Prelude.{◌≡◌, List, [], ◌∷◌, Option, Some}
use Rattle.feed_values.specs.declared.path.Path.{Path}
use Rattle.feed_values.specs.Schema.{Value}
use Rattle.feed_values.specs.Messages.{entity}
use Rattle.feed_values.specs.declared.cell_value.CellValue.{CellValue}
use Rattle.rule_table.specs.declared.rule.RuleId.{RuleId}
use Rattle.rule_table.specs.declared.ask.Ask.{Ask}
use Rattle.rule_table.specs.declared.key.EntityKey.{EntityKey}
use Rattle.rule_table.specs.declared.fact.Fact.{Fact}
use Rattle.rule_table.specs.declared.place.Place.{Place}
use Rattle.rule_table.specs.declared.place.Place.TheVariants as place
use Rattle.rule_table.specs.Broken.{Breaks}
use Rattle.timetable.specs.Timetables.{Tables}
use Rattle.rule_table.specs.Judged.{found_at, found_by}
use Rattle.rule_history.specs.History.{Snapshot, IsHistory}
use Rattle.rule_history.specs.Answered.{answer}
use Rattle.rule_history.specs.Findings.{findings}
use Rattle.rule_table.specs.Found.{Found}
use Rattle.rule_table.specs.ClearSlots.{HasCells, IsAmong}
use Rattle.rule_table.specs.Groups.{Each}

-- each fact's value is the answer to its ask
abbrev pub AllHold : (Ask → Option CellValue) → List Fact → Type 0
AllHold answer [] = Unit {0}
AllHold answer (f ∷ fs) = (answer f.ask ≡ Some f.value) × AllHold answer fs

-- facts that break a rule at a place are found there by whatever answers with them
abbrev pub EvidenceIsFound : Type 0
EvidenceIsFound = (answer : Ask → Option CellValue) (rule : RuleId) (at : Place) (facts : List Fact) → Breaks rule at facts → AllHold answer facts
    → found_at rule answer at ≡ record { rule = rule; place = at; facts = facts } ∷ []

-- facts that break a rule at an entity, and hold there, are among the findings of the rule at the entity
abbrev pub EvidenceIsAmong : Type 0
EvidenceIsAmong = (answer : Ask → Option CellValue) (rule : RuleId) (key : EntityKey) (e : Value entity) (p : Path) (facts : List Fact) → HasCells answer e → Breaks rule (place.Entity key p) facts → AllHold answer facts
    → IsAmong (record { rule = rule; place = place.Entity key p; facts = facts }) (found_by rule answer key e)

-- Evidence: for every timetable and history, facts that break a rule at a place and hold there show that this finding is among
-- all findings.
abbrev pub EvidenceShows : Type 0
EvidenceShows = (t : Option Tables) (h : List Snapshot) (rule : RuleId) (at : Place) (facts : List Fact) → IsHistory h → Breaks rule at facts → AllHold (answer t h at) facts
    → IsAmong (record { rule = rule; place = at; facts = facts }) (findings t h)

-- a finding whose facts break its rule at its place and hold there after a history
pub record IsEvidence (t : Option Tables) (h : List Snapshot) (f : Found) : Type 0 where
  pub breaks : Breaks f.rule f.place f.facts
  pub hold : AllHold (answer t h f.place) f.facts

-- And the other way round: of all findings the facts break the rule at the place, and hold there.
abbrev pub FindingsAreEvidence : Type 0
FindingsAreEvidence = (t : Option Tables) (h : List Snapshot) → Each (IsEvidence t h) (findings t h)
