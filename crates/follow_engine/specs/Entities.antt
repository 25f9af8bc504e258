-- The entities of the snapshots that are held, as values.
pub use Rattle.exchanged_timetables.specs.held_feeds.Entities.{entities_after, entities_held, entities_said}
pub use Rattle.exchanged_timetables.specs.entity_index.Handed.{keyed_value}
