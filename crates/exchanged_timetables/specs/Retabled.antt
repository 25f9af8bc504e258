-- What another timetable changes after a history.
use Rattle.std.specs.Prelude.{◌≡◌, ◌-◌, List, Option, length}
use Rattle.timetable.specs.Timetables.{Tables}
use Rattle.rule_history.specs.Findings.{findings}
use Rattle.rule_history.specs.History.{Snapshot}
use Rattle.rule_history.specs.Standing.{Spot, Standing, closed, opened}
use Rattle.engine_laws.specs.Standings.{Held, Matches, renewed}

-- Where the list is the one with the other timetable: the findings that weren't there with the same facts, each with its number, and the rules at places
-- that stood and don't.
pub record OpensAndCloses (t u : Option Tables) (h : List Snapshot) (list : List Standing) (opens : List Standing) (closes : List Spot) : Type 0 where
  pub opened_is : opens ≡ opened (findings t h) list
  pub closed_is : closes ≡ closed (findings t h) (findings u h)

-- What matched a history with one timetable matches it with the other. Each rule at a place keeps its number, and one that is new has the number of the
-- last snapshot; after no snapshot there is none.
pub record IsRetabled (t u : Option Tables) (h : List Snapshot) (e later : Held) (opens : List Standing) (closes : List Spot) : Type 0 where
  pub matches : Matches later u h
  pub numbers : later.list ≡ renewed e.list (length h - 1) (findings u h)
  pub changes : OpensAndCloses t u h later.list opens closes
