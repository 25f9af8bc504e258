-- What `touched_entities` says, for the crates above.
pub use Rattle.snapshot_steps.specs.touched_entities.Again
pub use Rattle.snapshot_steps.specs.touched_entities.FreshProofs
pub use Rattle.snapshot_steps.specs.touched_entities.OneMoreProofs
pub use Rattle.snapshot_steps.specs.touched_entities.Told
