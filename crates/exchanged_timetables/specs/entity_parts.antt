-- What `entity_parts` says, for the crates above.
pub use Rattle.taken_snapshots.specs.entity_parts.Found
