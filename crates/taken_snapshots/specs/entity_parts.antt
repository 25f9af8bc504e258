-- What `entity_parts` says, for the crates above.
pub use Rattle.snapshot_steps.specs.entity_parts.Found
pub use Rattle.snapshot_steps.specs.entity_parts.Rising
pub use Rattle.snapshot_steps.specs.entity_parts.WholeProofs
