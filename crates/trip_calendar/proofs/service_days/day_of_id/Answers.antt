use Rattle.std.proofs.Common.{sym}
use Rattle.trip_calendar.proofs.service_days.day_of_id.Goals as goal

pub returns-in-Some : goal.returns-in-Some
returns-in-Some c = c.day_of_trip.ensures c.args.id.now c.in-Some.ensures.found (sym c.in-Some.ensures.known)
