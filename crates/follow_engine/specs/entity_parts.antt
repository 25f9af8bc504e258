-- What `entity_parts` says, for the crates above.
pub use Rattle.exchanged_timetables.specs.entity_parts.Found
