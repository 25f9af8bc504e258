-- What code says of a snapshot's changes, as the definitions have it.
pub use Rattle.exchanged_timetables.specs.standing_walks.Changes.{all_opened, all_closed, opened_value, closed_value}
use Rattle.engine_laws.specs.Delta as law
use Rattle.follow_engine.specs.declared.delta.Delta.{Delta}

abbrev pub delta_value : Delta → law.Delta
delta_value d = record {
  snapshot = d.snapshot;
  entities = d.entities;
  opened = all_opened d.opened;
  closed = all_closed d.closed;
  tested = d.tested;
  paired = d.paired;
  bounded = d.bounded;
  peaked = d.peaked;
}
