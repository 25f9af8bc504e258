use Rattle.trip_calendar.proofs.NearestLemmas.{finds_nearest, finds_any}
use Rattle.trip_calendar.proofs.laws.nearest_is_least.Goals as goal

pub returns-clause-found : goal.returns-clause-found
returns-clause-found c = finds_nearest

pub returns-clause-none : goal.returns-clause-none
returns-clause-none c = finds_any
