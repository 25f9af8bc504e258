-- What answers an ask at an entity: the entity and the timetable, the headers, the pairing rows, or peaks.
use Rattle.rule_table.specs.declared.ask.Ask.{Ask}
use Rattle.rule_table.specs.declared.ask.Ask.TheVariants as ask
use Rattle.judging.specs.declared.entity_answers.Answering.{Answering}
use Rattle.judging.specs.declared.entity_answers.Answering.TheVariants.{Local, Heads, Pairs, Peaks}

abbrev pub answered_by : Ask → Answering
answered_by (ask.HeadNow slot) = Heads
answered_by (ask.HeadBefore slot) = Heads
answered_by ask.Moment = Heads
answered_by ask.EntitiesChanged = Heads
answered_by (ask.FirstVehicle kind trip) = Pairs
answered_by (ask.HasPair kind trip vehicle) = Pairs
answered_by (ask.AnyRow kind) = Pairs
answered_by (ask.HasTrip kind trip) = Pairs
answered_by (ask.HasVehicle kind vehicle) = Pairs
answered_by (ask.FirstId feed vehicle) = Pairs
answered_by (ask.FirstOccurrence feed vehicle) = Pairs
answered_by (ask.Peak feed vehicle) = Peaks
answered_by _ = Local
