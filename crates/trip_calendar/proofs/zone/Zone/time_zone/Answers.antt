use Rattle.std.proofs.Common.{refl}
use Rattle.jiff.specs.Words.{ambiguous_at, offset_at}
use Rattle.trip_calendar.proofs.zone.Zone.time_zone.Goals as goal

pub returns-in-Table-clause-offsets : goal.returns-in-Table-clause-offsets
unfolding offset_at
returns-in-Table-clause-offsets c = λ n. rw (c.tzif.ensures, c.in-Table.is) refl

pub returns-in-Table-clause-choices : goal.returns-in-Table-clause-choices
unfolding ambiguous_at
returns-in-Table-clause-choices c = λ dt. rw (c.tzif.ensures, c.in-Table.is) refl
