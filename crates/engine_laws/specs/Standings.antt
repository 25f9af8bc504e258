-- What an engine holds, which history it stands for, and how its numbers go on.
use Rattle.std.specs.Prelude.{◌≡◌, ℕ, List, [], ◌∷◌, length, map, get_or, Option, Some, None, unwrap_or, if◌then◌else◌}
use Rattle.timetable.specs.Timetables.{Tables}
use Rattle.rule_table.specs.Found.{Found}
use Rattle.rule_table.specs.Peaks.{PeakMap}
use Rattle.rule_table.specs.Groups.{Each}
use Rattle.rule_history.specs.History.{Snapshot, now}
use Rattle.rule_history.specs.Findings.{findings}
use Rattle.rule_history.specs.Peaks.{peak}
use Rattle.rule_history.specs.Standing.{Standing, IsSince, stands_after, same_spot}

abbrev pub findings_of : List Standing → List Found
findings_of xs = map (λ x. x.finding) xs

-- a list has the findings after a history, in their order, each with the number since when its rule stands at its place
pub record IsListOf (t : Option Tables) (h : List Snapshot) (list : List Standing) : Type 0 where
  pub found : findings_of list ≡ findings t h
  pub since : Each (λ x. IsSince (stands_after t h x.finding) (length h) x.since) list

-- The plain data of an engine: its timetable, how many snapshots it has taken, the last one of each feed, the peaks of vehicles, and its list.
pub record Held : Type 0 where
  pub table : Option Tables
  pub applied : ℕ
  pub last : List (Option Snapshot)
  pub peaks : PeakMap
  pub list : List Standing

-- It matches a timetable and a history: the timetable is its own, its number is how many snapshots there are, it has the
-- last snapshot of each feed and none of a feed without one, it has the peaks, and its list has the findings.
pub record Matches (e : Held) (t : Option Tables) (h : List Snapshot) : Type 0 where
  pub table_is : e.table ≡ t
  pub number : e.applied ≡ length h
  pub last_is : (f : ℕ) → get_or e.last f None ≡ now h f
  pub peaks_are : (f : ℕ) (vehicle : List ℕ) → e.peaks f vehicle ≡ peak h f vehicle
  pub found_is : findings_of e.list ≡ findings t h

-- It stands for them: it matches them, and each number in its list is that since when the rule stands at its place.
pub record StandsFor (e : Held) (t : Option Tables) (h : List Snapshot) : Type 0 where
  pub matches : Matches e t h
  pub since : Each (λ x. IsSince (stands_after t h x.finding) (length h) x.since) e.list

pub listed : (e : Held) (t : Option Tables) (h : List Snapshot) → StandsFor e t h → IsListOf t h e.list
listed e t h st = record { found = st.matches.found_is; since = st.since }

-- ---- how numbers go on
-- the number of a rule at a place in a list, whatever the facts
abbrev pub since_in : List Standing → Found → Option ℕ
since_in [] f = None
since_in (x ∷ xs) f = if same_spot f x.finding then Some x.since else since_in xs f

-- a finding with the number that its rule has at its place in an old list, and where it has none with n
abbrev pub numbered : List Standing → ℕ → Found → Standing
numbered old n f = record { finding = f; since = unwrap_or (since_in old f) n }

abbrev pub renewed : List Standing → ℕ → List Found → List Standing
renewed old n fs = map (numbered old n) fs
