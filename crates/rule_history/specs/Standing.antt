-- Since when rules stand at places, and what one more snapshot opens and closes.
use Rattle.std.specs.Prelude.{◌≡◌, ℕ, ◌<◌, ◌≤◌, Bool, true, not, ◌&&◌, List, filter, map, take, Option}
use Rattle.std.specs.List.{list_any}
use Rattle.timetable.specs.Timetables.{Tables}
use Rattle.rule_table.specs.declared.rule.RuleId.{RuleId}
use Rattle.rule_table.specs.declared.place.Place.{Place}
use Rattle.rule_table.specs.Rules.{same_rule}
use Rattle.rule_table.specs.Order.{same_place}
pub use Rattle.rule_table.specs.SameFacts.{same_ask, same_facts}
use Rattle.rule_table.specs.Found.{Found}
use Rattle.rule_history.specs.History.{Snapshot}
use Rattle.rule_history.specs.Findings.{findings}

-- ---- when findings are one
-- a rule at a place, whatever the facts
abbrev pub same_spot : Found → Found → Bool
same_spot f g = same_rule f.rule g.rule && same_place f.place g.place

abbrev pub same_finding : Found → Found → Bool
same_finding f g = same_spot f g && same_facts f.facts g.facts

-- ---- since
-- whether a finding's rule stands at its place among some findings, whatever the facts
abbrev pub stands : List Found → Found → Bool
stands fs f = list_any (same_spot f) fs

-- whether it stands after the first m snapshots of a history
abbrev pub stands_after : Option Tables → List Snapshot → Found → ℕ → Bool
stands_after t h f m = stands (findings t (take m h)) f

-- it stands after each prefix of more than s, and at most n, snapshots
abbrev pub StandsFrom : (ℕ → Bool) → ℕ → ℕ → Type 0
StandsFrom after n s = (m : ℕ) → s < m → m ≤ n → after m ≡ true

-- since s: s is the least number such that it stands after each prefix of more than s of the n snapshots
pub record IsSince (after : ℕ → Bool) (n s : ℕ) : Type 0 where
  pub within : s < n
  pub each : StandsFrom after n s
  pub least : (r : ℕ) → StandsFrom after n r → s ≤ r

-- ---- what a snapshot opens and closes
-- a finding, and since when its rule stands at its place
pub record Standing : Type 0 where
  pub finding : Found
  pub since : ℕ

-- whether it was among some findings, with the same facts
abbrev pub was : List Found → Found → Bool
was before f = list_any (same_finding f) before

-- of the findings that stand now, those that weren't among the findings before with the same facts
abbrev pub opened : List Found → List Standing → List Standing
opened before now = filter (λ x. not (was before x.finding)) now

-- a rule at a place
pub record Spot : Type 0 where
  pub rule : RuleId
  pub place : Place

abbrev pub spots_of : List Found → List Spot
spots_of fs = map (λ f. record { rule = f.rule; place = f.place }) fs

-- of the findings before, those whose rule stands no more at its place
abbrev pub closed : List Found → List Found → List Spot
closed before now = spots_of (filter (λ f. not (stands now f)) before)
