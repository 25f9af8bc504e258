-- What `entity_parts` says, for the crates above.
pub use Rattle.touched_entities.specs.entity_parts.Found
pub use Rattle.touched_entities.specs.entity_parts.Rising
pub use Rattle.touched_entities.specs.entity_parts.WholeProofs
