use Rattle.std.proofs.Common.{refl}
use Rattle.timetable.specs.Lookups.{trip_row}
use Rattle.timetable.proofs.TimetableLemmas.{service_named}
use Rattle.timetable.proofs.timetable.Timetable.service_of.Goals as goal

pub returns-clause-service : goal.returns-clause-service
returns-clause-service c = λ id number. service_named c.args.self.now (record { trip = c.args.trip.number }) id (trip_row c.args.self.now id) number refl
