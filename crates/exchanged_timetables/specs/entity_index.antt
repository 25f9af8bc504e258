-- What `entity_index` says, for the crates above.
pub use Rattle.taken_snapshots.specs.entity_index.Handed
pub use Rattle.taken_snapshots.specs.entity_index.Held
