-- What `entity_index` says, for the crates above.
pub use Rattle.exchanged_timetables.specs.entity_index.Held
