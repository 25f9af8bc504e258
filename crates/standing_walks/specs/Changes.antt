-- What is handed out of changes, as the definitions have it.
use Rattle.std.specs.Prelude.{List, map}
use Rattle.rule_table.specs.Found.{Found}
use Rattle.rule_history.specs.Standing.{Standing, Spot}
use Rattle.standing_walks.specs.declared.changes.Opened.{Opened}
use Rattle.standing_walks.specs.declared.changes.Closed.{Closed}

-- a finding's rule and place
abbrev pub spot_of : Found → Spot
spot_of f = record { rule = f.rule; place = f.place }

abbrev pub opened_value : Opened → Standing
opened_value x = record { finding = x.finding; since = x.since }

abbrev pub closed_value : Closed → Spot
closed_value x = record { rule = x.rule; place = x.place }

abbrev pub all_opened : List Opened → List Standing
all_opened xs = map opened_value xs

abbrev pub all_closed : List Closed → List Spot
all_closed xs = map closed_value xs
