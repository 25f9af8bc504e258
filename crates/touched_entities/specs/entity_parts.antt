-- What `entity_parts` says, for the crates above.
pub use Rattle.entity_parts.proofs.Whole as WholeProofs
pub use Rattle.entity_parts.specs.Found
pub use Rattle.entity_parts.specs.Rising
