-- What `touched_entities` says, for the crates above.
pub use Rattle.taken_snapshots.specs.touched_entities.Told
