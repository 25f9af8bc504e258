use Rattle.std.proofs.Common.{ap, ◌∙◌}
use Rattle.std.specs.FinMap as map
use Rattle.schedule_tables.specs.Times.{keyed}
use Rattle.schedule_tables.proofs.SequenceLemmas.{all_entries, each_held}
use Rattle.schedule_tables.proofs.trip_times.TripTimes.as_slice.Goals as goal

pub returns-clause-entries : goal.returns-clause-entries
returns-clause-entries c = ap keyed c.as_slice.ensures.value ∙ all_entries c.self.inside.times.items c.self.invariant ∙ ap map.entries c.self.view_is

pub returns-clause-held : goal.returns-clause-held
returns-clause-held c = rw (c.as_slice.ensures.value, ← c.self.view_is) (each_held c.self.inside.times.items c.self.invariant)
