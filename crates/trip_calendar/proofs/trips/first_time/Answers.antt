use Rattle.std.proofs.Common.{◌∙◌}
use Rattle.timetable.specs.Lookups.{tables_in}
use Rattle.trip_calendar.proofs.DayLemmas.{first_time-given}
use Rattle.trip_calendar.proofs.trips.first_time.Goals as goal

pub returns : goal.returns
returns c = λ id is. c.first_given.ensures ∙ first_time-given (tables_in c.args.table.now) id c.stop_times.result.now (c.stop_times.ensures.times id is)
