-- What `entity_index` says, for the crates above.
pub use Rattle.snapshot_steps.specs.entity_index.AtKeyProofs
pub use Rattle.snapshot_steps.specs.entity_index.FindingProofs
pub use Rattle.snapshot_steps.specs.entity_index.Handed
pub use Rattle.snapshot_steps.specs.entity_index.Held
pub use Rattle.snapshot_steps.specs.entity_index.Lists
